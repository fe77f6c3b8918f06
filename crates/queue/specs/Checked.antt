-- The changing calls as the functions decide them, one check after the other; each is what `call_of` says (`admit_is` and the
-- others).
use Rattle.std.specs.Prelude.{◌≡◌, refl, Bool, true, false, cond, [], ℕ, ltb, length}
use Rattle.std.proofs.Common.{sym}
use Rattle.std.proofs.Math.Option.{Option, none, some}
use Rattle.queue.specs.paper.Answer.{Answer, Refused, Done}
use Rattle.queue.specs.Codec.{cases}
use Rattle.queue.specs.bytes.ReaderLaws.{false_true}
use Rattle.queue.specs.Areas.{read_area}
use Rattle.queue.specs.paper.Records.{Bytes, Queue}
use Rattle.queue.specs.paper.Sound.{need}
use Rattle.queue.specs.paper.Area.{over}
use Rattle.queue.specs.paper.Changing.{Out, refused, done, admit, cancel, expire, reconcile, reopen, set_cursor}
use Rattle.queue.specs.paper.Calls.{id?, items, given, given_id?, id_list?, entry_bytes, ids_bytes, released_bytes, nothing_bytes, AdmitArgs, admission, ReconcileArgs, reconciliation, Call, admitting, cancelling, expiring, reconciling, reopening, setting_cursor, shape?, over_k?, worked, rules, work, next_area, on_lent, call_of}

-- what a call that writes one area or one output gives back, and leaves there
abbrev pub Written : Type 0
Written = Answer × Bytes

abbrev pub written : Answer → Bytes → Written
written a s = (a, s)

-- what a changing call gives back, and leaves in the next area and the output
abbrev pub Outcome : Type 0
Outcome = Answer × (Bytes × Bytes)

abbrev pub outcome : Answer → Bytes → Bytes → Outcome
outcome a n o = (a, (n, o))

abbrev pub refuse : ℕ → Bytes → Bytes → Outcome
refuse n next out = outcome (Refused n) next out

abbrev pub told : {A : Type 0} → (A → Bytes) → Bytes → Bytes → Out A → Outcome
told bytes next out (refused n) = refuse n next out
told bytes next out (done k q a) =
    cond (ltb (length out) (length (bytes a))) (refuse 4 next out) (outcome (Done k) (next_area (Done k) q next) (over (bytes a) out))

abbrev pub on_queue : Bytes → Bytes → (Queue → Outcome) → Option Queue → Outcome
on_queue next out f none = refuse 3 next out
on_queue next out f (some q) = cond (ltb (length next) (need q.limits)) (refuse 2 next out) (f q)

abbrev pub changing : Bytes → Bytes → Bytes → (Queue → Outcome) → Outcome
changing cur next out f = on_queue next out f (read_area cur)

abbrev pub admit_shape? : AdmitArgs → Bool
admit_shape? a = shape? (admitting a)

abbrev pub reconcile_shape? : ReconcileArgs → Bool
reconcile_shape? a = shape? (reconciling a)

unfoldable pub admit_of : Bytes → Bytes → Bytes → AdmitArgs → Outcome
admit_of cur next out a =
    changing cur next out λ q.
    cond (admit_shape? a) (cond (over_k? q.limits.K a) (refuse 6 next out) (told entry_bytes next out (admit (admission a) q))) (refuse 5 next out)

unfoldable pub cancel_of : Bytes → Bytes → Bytes → Bytes → Outcome
cancel_of cur next out id = changing cur next out λ q. cond (id? id) (told entry_bytes next out (cancel id q)) (refuse 5 next out)

unfoldable pub expire_of : Bytes → Bytes → Bytes → ℕ → ℕ → Outcome
expire_of cur next out now height = changing cur next out λ q. told ids_bytes next out (expire now height q)

unfoldable pub reconcile_of : Bytes → Bytes → Bytes → ReconcileArgs → Outcome
reconcile_of cur next out a =
    changing cur next out λ q. cond (reconcile_shape? a) (told released_bytes next out (reconcile (reconciliation a) q)) (refuse 5 next out)

unfoldable pub reopen_of : Bytes → Bytes → Bytes → Outcome
reopen_of cur next ids =
    changing cur next [] λ q. cond (id_list? ids) (told nothing_bytes next [] (reopen (items 32 ids) q)) (refuse 5 next [])

unfoldable pub set_cursor_of : Bytes → Bytes → ℕ → ℕ → Bytes → Outcome
set_cursor_of cur next height flag tip =
    changing cur next [] λ q. cond (given_id? flag tip) (told nothing_bytes next [] (set_cursor height (given flag tip) q)) (refuse 5 next [])

-- ---- what `call_of` says

told_is : {A : Type 0} (bytes : A → Bytes) (q : Queue) (next out : Bytes) (o : Out A) → told bytes next out o ≡ on_lent next out (worked bytes q (length out) o)
unfolding over
told_is bytes q next out (refused n) = refl
told_is bytes q next out (done k x a) = cases (ltb (length out) (length (bytes a))) (λ t. rw t) (λ t. rw t)

-- a call with its checks 3, 2 and 5, and what comes then
checked : (c : Call) (cur next out : Bytes) (f : Queue → Outcome) → ((q : Queue) → shape? c ≡ true → f q ≡ on_lent next out (rules c q (length out)))
    → ((q : Queue) → shape? c ≡ false → f q ≡ refuse 5 next out) → changing cur next out f ≡ call_of c cur next out
unfolding call_of work over
checked c cur next out f h g = go (read_area cur) refl
  where
    go : (o : Option Queue) → read_area cur ≡ o → changing cur next out f ≡ call_of c cur next out
    go none e = rw e
    go (some q) e = cases (ltb (length next) (need q.limits))
        (λ t. rw (e, t))
        (λ t. cases (shape? c) (λ u. rw (e, t, u) (h q u)) (λ u. rw (e, t, u) (g q u)))

pub admit_is : (cur next out : Bytes) (a : AdmitArgs) → admit_of cur next out a ≡ call_of (admitting a) cur next out
unfolding admit_of over
admit_is cur next out a = checked (admitting a) cur next out _
    (λ q u. rw u (cases (over_k? q.limits.K a) (λ v. rw v) (λ v. rw v (told_is entry_bytes q next out (admit (admission a) q)))))
    (λ q u. rw u)

pub cancel_is : (cur next out id : Bytes) → cancel_of cur next out id ≡ call_of (cancelling id) cur next out
unfolding cancel_of
cancel_is cur next out id = checked (cancelling id) cur next out _ (λ q u. rw u (told_is entry_bytes q next out (cancel id q))) (λ q u. rw u)

pub expire_is : (cur next out : Bytes) (now height : ℕ) → expire_of cur next out now height ≡ call_of (expiring now height) cur next out
unfolding expire_of
expire_is cur next out now height = checked (expiring now height) cur next out _ (λ q u. told_is ids_bytes q next out (expire now height q)) (λ q u. false_true (sym u))

pub reconcile_is : (cur next out : Bytes) (a : ReconcileArgs) → reconcile_of cur next out a ≡ call_of (reconciling a) cur next out
unfolding reconcile_of
reconcile_is cur next out a = checked (reconciling a) cur next out _ (λ q u. rw u (told_is released_bytes q next out (reconcile (reconciliation a) q))) (λ q u. rw u)

pub reopen_is : (cur next ids : Bytes) → reopen_of cur next ids ≡ call_of (reopening ids) cur next []
unfolding reopen_of
reopen_is cur next ids = checked (reopening ids) cur next [] _ (λ q u. rw u (told_is nothing_bytes q next [] (reopen (items 32 ids) q))) (λ q u. rw u)

pub set_cursor_is : (cur next : Bytes) (height flag : ℕ) (tip : Bytes) → set_cursor_of cur next height flag tip ≡ call_of (setting_cursor height flag tip) cur next []
unfolding set_cursor_of
set_cursor_is cur next height flag tip =
    checked (setting_cursor height flag tip) cur next [] _ (λ q u. rw u (told_is nothing_bytes q next [] (set_cursor height (given flag tip) q))) (λ q u. rw u)

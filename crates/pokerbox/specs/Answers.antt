-- Each call on lent bytes answers and leaves what the plain machine works out; and what it works out is kept.
use Rattle.std.specs.Prelude.{◌≡◌, refl, Bool, true, false, not, ◌||◌, List, ℕ, ◌+◌, ◌<◌, min, ltb, leb, length}
use Rattle.std.proofs.Math.Option.{Option, some}
use Rattle.queue.specs.declared.Kind.{Kind}
use Rattle.queue.specs.declared.Kind.TheVariants.{Nothing, Memory, Whole, Cursor}
use Rattle.queue.specs.paper.Answer.{Answer, Refused, Done}
use Rattle.queue.specs.Codec.{cases}
use Rattle.queue.specs.bytes.ReaderLaws.{false_true}
use Rattle.queue.specs.Areas.{read_area}
use Rattle.queue.specs.theorems.SoundParts.{Fit}
use Rattle.queue.specs.theorems.CallsKeeps.{Kept, Leaves, Wholly, set_cursor_leaves, cancel_leaves, expire_leaves, reopen_leaves, cancel_wholly, expire_wholly, reopen_wholly}
use Rattle.queue.specs.theorems.AdmitKeeps.{admit_leaves, admit_wholly}
use Rattle.queue.specs.theorems.ReconcileKeeps.{reconcile_leaves, CursorNear, reconcile_near, reconcile_to}
use Rattle.queue.specs.theorems.Arguments.{AdmitLent, admission_ok, ReconcileLent, reconciling_ok, given_id}
use Rattle.queue.specs.paper.Records.{Bytes, Id, Rec, Queue}
use Rattle.queue.specs.paper.Lists.{is_some, any?, is_empty?}
use Rattle.queue.specs.paper.Sound.{need}
use Rattle.queue.specs.paper.Changing.{Out, refused, done, top, top_height, moved, Reconciling, touch, admit, cancel, expire, reconcile, reopen, set_cursor, own_of, touched_recs, to_release}
use Rattle.queue.specs.paper.Calls.{items, given, entry_bytes, ids_bytes, released_bytes, nothing_bytes, Call, admitting, cancelling, expiring, reconciling, reopening, setting_cursor, admission, reconciliation, shape?, over_k?, worked, rules, work, on_lent, call_of}
use Rattle.pokerbox.specs.paper.Claim.{CallOk, mover}

-- ---- on lent bytes

pub call_is : (c : Call) (cur next out : Bytes) (q : Queue) → read_area cur ≡ some q → call_of c cur next out ≡ on_lent next out (work c q (length next) (length out))
unfolding call_of
call_is c cur next out q e = rw e

-- ---- what is worked out

-- Memory and Cursor keep the records; near: whether memory's cursor is claimed to be near the persisted height
abbrev pub Moves : Bool → Kind → Queue → Queue → Type 0
Moves near Nothing q x = Unit {0}
Moves near Memory q x = (x.recs ≡ q.recs) × (near ≡ true → x.cursor < x.persisted + 32)
Moves near Whole q x = Unit {0}
Moves near Cursor q x = x.recs ≡ q.recs

abbrev pub Good : Bool → Queue → Answer → Queue → Type 0
Good near q (Refused n) x = Unit {0}
Good near q (Done k) x = Kept k q x × Moves near k q x

abbrev Goods : {A : Type 0} → Bool → Queue → Out A → Type 0
Goods near q (refused n) = Unit {0}
Goods near q (done k x a) = Kept k q x × Moves near k q x

worked_good : {A : Type 0} (bytes : A → Bytes) (room : ℕ) (near : Bool) (q : Queue) (o : Out A) → Goods near q o
    → Good near q (worked bytes q room o).answer (worked bytes q room o).next
worked_good bytes room near q (refused n) h = tt
worked_good bytes room near q (done k x a) h = cases (ltb room (length (bytes a))) (λ t. rw t tt) (λ t. rw t h)

whole_goods : {A : Type 0} (near : Bool) (q : Queue) (o : Out A) → Leaves q o → Wholly o → Goods near q o
whole_goods near q (refused n) h w = tt
whole_goods near q (done Nothing x a) h w = (h, tt)
whole_goods near q (done Memory x a) h w = absurd w
whole_goods near q (done Whole x a) h w = (h, tt)
whole_goods near q (done Cursor x a) h w = absurd w

-- a reconciliation that changes no record
abbrev SameRecs : {A : Type 0} → Queue → Out A → Type 0
SameRecs q (refused n) = Unit {0}
SameRecs q (done Nothing x a) = Unit {0}
SameRecs q (done Memory x a) = x.recs ≡ q.recs
SameRecs q (done Whole x a) = Unit {0}
SameRecs q (done Cursor x a) = x.recs ≡ q.recs

reconcile_recs : (c : Reconciling) (q : Queue) → SameRecs q (reconcile c q)
unfolding reconcile moved
reconcile_recs c q = go (any? (λ r. is_some (touch c (own_of c q) r)) q.recs) (touched_recs c q) (to_release c q)
  where
    go : (changed : Bool) (l : List Rec) (ids : List Id) → SameRecs q (reconcile_to c q changed l ids)
    go changed l ids = cases (ltb top (q.counter + length ids))
        (λ t. rw t tt)
        (λ t. cases (changed || not (is_empty? ids))
        (λ u. rw (t, u) tt)
        (λ u. cases (leb (min (q.persisted + 32) top_height) c.height) (λ v. rw (t, u, v)) (λ v. rw (t, u, v))))

near_goods : {A : Type 0} (near : Bool) (q : Queue) (o : Out A) → Leaves q o → CursorNear o → SameRecs q o → Goods near q o
near_goods near q (refused n) h d e = tt
near_goods near q (done Nothing x a) h d e = (h, tt)
near_goods near q (done Memory x a) h d e = (h, (e, λ _. d))
near_goods near q (done Whole x a) h d e = (h, tt)
near_goods near q (done Cursor x a) h d e = (h, e)

-- a cursor setting claims nothing of the cursor
set_goods : (height : ℕ) (tip : Option Id) (q : Queue) → Leaves q (set_cursor height tip q) → Goods false q (set_cursor height tip q)
unfolding set_cursor moved
set_goods height tip q h = (h, (refl, λ z. false_true z))

rules_good : (c : Call) (q : Queue) (room : ℕ) (old : Bool) → shape? c ≡ true → CallOk c → Fit q → Good (mover c q old) q (rules c q room).answer (rules c q room).next
rules_good (admitting a) q room old u h f = cases (over_k? q.limits.K a)
    (λ v. rw v tt)
    (λ v. rw v (worked_good entry_bytes room (mover (admitting a) q old) q (admit (admission a) q)
    (whole_goods (mover (admitting a) q old) q (admit (admission a) q) (admit_leaves (admission a) q f (admission_ok q.limits.K a lent u v)) (admit_wholly (admission a) q))))
  where
    lent : AdmitLent a
    lent = record {
      id = h.0.0;
      inputs = h.0.1.0;
      outputs = h.0.1.1.0;
      reads = h.0.1.1.1.0;
      bytes = h.0.1.1.1.1.0;
      now = h.1.0;
      time = h.1.1.0;
      height = h.1.1.1.0;
      priority = h.1.1.1.1.0;
      label = h.0.1.1.1.1.1.0;
      fee = h.1.1.1.1.1.0;
      cost = h.1.1.1.1.1.1.0;
      tip_height = h.1.1.1.1.1.1.1;
      tip = h.0.1.1.1.1.1.1;
    }
rules_good (cancelling i) q room old u h f =
    worked_good entry_bytes room old q (cancel i q) (whole_goods old q (cancel i q) (cancel_leaves i q f) (cancel_wholly i q))
rules_good (expiring now height) q room old u h f =
    worked_good ids_bytes room old q (expire now height q) (whole_goods old q (expire now height q) (expire_leaves now height q f) (expire_wholly now height q))
rules_good (reconciling a) q room old u h f =
    worked_good released_bytes room true q (reconcile (reconciliation a) q)
    (near_goods true q (reconcile (reconciliation a) q) (reconcile_leaves (reconciliation a) q f (reconciling_ok a lent u)) (reconcile_near (reconciliation a) q) (reconcile_recs (reconciliation a) q))
  where
    lent : ReconcileLent a
    lent = record { height = h.1.0; tip = h.0.0; applied = h.0.1.0 }
rules_good (reopening ids) q room old u h f =
    worked_good nothing_bytes room old q (reopen (items 32 ids) q) (whole_goods old q (reopen (items 32 ids) q) (reopen_leaves (items 32 ids) q f) (reopen_wholly (items 32 ids) q))
rules_good (setting_cursor height flag tip) q room old u h f =
    worked_good nothing_bytes room false q (set_cursor height (given flag tip) q)
    (set_goods height (given flag tip) q (set_cursor_leaves height (given flag tip) q f h.1 (given_id flag tip u h.0)))

pub work_good : (c : Call) (q : Queue) (lent room : ℕ) (old : Bool) → CallOk c → Fit q → Good (mover c q old) q (work c q lent room).answer (work c q lent room).next
unfolding work
work_good c q lent room old h f = cases (ltb lent (need q.limits))
    (λ t. rw t tt)
    (λ t. cases (shape? c) (λ u. rw (t, u) (rules_good c q room old u h f)) (λ u. rw (t, u) tt))

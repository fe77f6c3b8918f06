-- Demand 1: every exported call gives back the number of the first of its checks that holds, or its result; and a refusal other
-- than 17 leaves what is lent as it was (statements in paper/Refusals).
use Rattle.std.specs.Prelude.{◌≡◌, refl, Bool, true, false, not, ◌&&◌, ◌||◌, List, [], ◌∷◌, ℕ, ◌+◌, min, ltb, leb, eqb, length}
use Rattle.std.proofs.Common.{ap, sym, ◌∙◌, arith, ltb-true, leb-true, eqb-true, eq-eqb, ne_eqb}
use Rattle.std.proofs.Math.Option.{Option, none, some}
use Rattle.std.proofs.lemmas.Bool.{eqb-false}
use Rattle.queue.specs.declared.Kind.{Kind}
use Rattle.queue.specs.declared.Kind.TheVariants.{Nothing, Memory, Whole, Cursor}
use Rattle.queue.specs.paper.Answer.{Answer, Refused, Done}
use Rattle.queue.specs.Codec.{cases}
use Rattle.queue.specs.Lists.{and_true}
use Rattle.queue.specs.Areas.{read_area, read_image}
use Rattle.queue.specs.theorems.ReconcileKeeps.{reconcile_to}
use Rattle.queue.specs.paper.Records.{Bytes, Id, Limits, Held, Rec, Queue}
use Rattle.queue.specs.paper.Lists.{is_some, maybe, any?, total, count, find, is_empty?}
use Rattle.queue.specs.paper.Sound.{in_range, shares_right?, need, holder?, pending?, mined?, label_len, clash?, crossed?}
use Rattle.queue.specs.paper.Kinds.{oldest, says?}
use Rattle.queue.specs.paper.Area.{image_under, image_bytes, over}
use Rattle.queue.specs.paper.Changing.{refused, done, top, top_height, named?, reached?, Admission, pendings, pending_bytes, pendings_of, share_of, admit_new, admit, cancel, due?, expire, Reconciling, touch, reconcile, listed?, reopen, set_cursor, own_of, touched_recs, to_release}
use Rattle.queue.specs.paper.Calls.{id?, entry_bytes, ids_bytes, released_bytes, nothing_bytes, items, Call, admitting, cancelling, expiring, reconciling, reopening, setting_cursor, AdmitArgs, admission, ReconcileArgs, reconciliation, shape?, over_k?, Worked, worked, rules, work, next_area, on_lent, call_of, limits_of, fresh_of, sound_of, settle_shape?, settle_of, read_of, number_of, look_up, entry_of, signed_part, signed_bytes_of}
use Rattle.queue.specs.paper.Fees.{best_fees_value, candidates, size_of, fee_of, best_bytes, search_of, budget?, best_fees_of}
use Rattle.image.specs.paper.Image.{image_of, open_of, Five, need_of, image_limits_of, read_newest, convert_of}
use Rattle.pokerbox.specs.paper.Refusals.{Checks, first_of, refusal, Answers, unsound?, on, answer, rule_checks, call_checks, settle_checks, fresh_checks, fees_checks, convert_checks, Demand1}

refused_17 : {n : ℕ} → Refused 17 ≡ Refused n → n ≡ 17
refused_17 {n} e = let z : ◌≡◌ {A = ℕ} 17 n = cc in sym z

done_refused : {X : Type 0} {k : Kind} {n : ℕ} → Done k ≡ Refused n → X
done_refused e = let z : ◌≡◌ {A = ℕ} 0 1 = cc in absurd (omega arith)

-- a refusal that leaves what is lent; a result
no : {A : Type 0} (n : ℕ) (lent : A) (l : Checks) → n ≡ first_of l → Answers (Refused n, lent) lent l
no n lent l e = record { number = e; kept = λ n h k. refl }

yes : {A : Type 0} (k : Kind) (x lent : A) (l : Checks) → 0 ≡ first_of l → Answers (Done k, x) lent l
yes k x lent l e = record { number = e; kept = λ n h k. done_refused h }

-- ---- what is worked out

record Right (w : Worked) (l : Checks) : Type 0 where
  number : refusal w.answer ≡ first_of l
  empty : (n : ℕ) → w.answer ≡ Refused n → w.bytes ≡ []

recheck : {w : Worked} {l r : Checks} → Right w l → first_of l ≡ first_of r → Right w r
recheck x e = record { number = x.number ∙ e; empty = x.empty }

-- 4 comes last
last : {A : Type 0} (bytes : A → Bytes) (q x : Queue) (room : ℕ) (k : Kind) (a : A) → Right (worked bytes q room (done k x a)) ((4, ltb room (length (bytes a))) ∷ [])
last bytes q x room k a = cases (ltb room (length (bytes a)))
    (λ t. rw t (record { number = refl; empty = λ n h. refl }))
    (λ t. rw t (record { number = refl; empty = λ n h. done_refused h }))

first : (n : ℕ) {A : Type 0} (bytes : A → Bytes) (q : Queue) (room : ℕ) (l : Checks) → n ≡ first_of l → Right (worked bytes q room (refused n)) l
first n bytes q room l e = record { number = e; empty = λ n h. refl }

-- no output
silent : (q x : Queue) (room : ℕ) (k : Kind) (a : Unit {0}) → Right (worked nothing_bytes q room (done k x a)) []
silent q x room k a = cases (ltb room 0)
    (λ t. absurd (let z = ltb-true room 0 t in let y : ⊥ = omega arith in y))
    (λ t. rw t (record { number = refl; empty = λ n h. done_refused h }))

module _ (a : AdmitArgs) (q : Queue) (room : ℕ) where
  abbrev x : Admission
  x = admission a

  -- 10, 18, 11, 12, 20, then 4
  abbrev late : Checks
  late = (10, leb q.limits.P (pendings q.recs))
      ∷ (18, leb (share_of x.caller q.limits) (pendings_of x.caller q.recs))
      ∷ (11, ltb q.limits.B (pending_bytes q.recs + length x.held.bytes))
      ∷ (12, clash? x.held.ins q.recs)
      ∷ (20, crossed? x.held.ins x.held.reads q.recs)
      ∷ (4, ltb room (length (answer entry_bytes (admit_new x q)))) ∷ []

  new_right : Right (worked entry_bytes q room (admit_new x q)) late
  new_right = cases (leb q.limits.P (pendings q.recs))
      (λ t. rw t (first 10 entry_bytes q room _ refl))
      (λ t. cases (leb (share_of x.caller q.limits) (pendings_of x.caller q.recs))
      (λ w. rw (t, w) (first 18 entry_bytes q room _ refl))
      (λ w. cases (ltb q.limits.B (pending_bytes q.recs + length x.held.bytes))
      (λ u. rw (t, w, u) (first 11 entry_bytes q room _ refl))
      (λ u. cases (clash? x.held.ins q.recs)
      (λ v. rw (t, w, u, v) (first 12 entry_bytes q room _ refl))
      (λ v. cases (crossed? x.held.ins x.held.reads q.recs)
      (λ y. rw (t, w, u, v, y) (first 20 entry_bytes q room _ refl))
      (λ y. rw (t, w, u, v, y) (recheck (last entry_bytes q _ room Whole _) refl))))))

  admit_right : Right (rules (admitting a) q room) (rule_checks (admitting a) q room)
  unfolding admit
  admit_right = cases (over_k? q.limits.K a)
      (λ k. rw k (record { number = refl; empty = λ n h. refl }))
      (λ k. cases (reached? x.due x.now)
      (λ t. rw (k, t) (first 7 entry_bytes q room _ refl))
      (λ t. cases (reached? x.due_height x.tip_height)
      (λ u. rw (k, t, u) (first 8 entry_bytes q room _ refl))
      (λ u. cases (ltb 200 (label_len x.label))
      (λ v. rw (k, t, u, v) (first 9 entry_bytes q room _ refl))
      (λ v. go k t u v (find (named? x.id) q.recs) refl))))
    where
      go : over_k? q.limits.K a ≡ false → reached? x.due x.now ≡ false → reached? x.due_height x.tip_height ≡ false → ltb 200 (label_len x.label) ≡ false
          → (o : Option Rec) → find (named? x.id) q.recs ≡ o → Right (rules (admitting a) q room) (rule_checks (admitting a) q room)
      go k t u v none f = rw (k, t, u, v, f) (recheck new_right refl)
      go k t u v (some r) f = cases (pending? r.state || mined? r)
          (λ w. rw (k, t, u, v, f, w) (recheck (last entry_bytes q q room Nothing r) refl))
          (λ w. rw (k, t, u, v, f, w) (recheck new_right refl))

module _ (i : Id) (q : Queue) (room : ℕ) where
  cancel_right : Right (rules (cancelling i) q room) (rule_checks (cancelling i) q room)
  unfolding cancel
  cancel_right = go (find (named? i) q.recs) refl
    where
      go : (o : Option Rec) → find (named? i) q.recs ≡ o → Right (rules (cancelling i) q room) (rule_checks (cancelling i) q room)
      go none f = rw f (first 13 entry_bytes q room _ refl)
      go (some r) f = cases (mined? r)
          (λ t. rw (f, t) (first 14 entry_bytes q room _ refl))
          (λ t. cases (holder? r)
          (λ u. cases (ltb top (q.counter + count (named? i) q.recs))
          (λ v. rw (f, t, u, v) (first 15 entry_bytes q room _ refl))
          (λ v. rw (f, t, u, v) (recheck (last entry_bytes q _ room Whole _) refl)))
          (λ u. rw (f, t, u) (recheck (last entry_bytes q q room Nothing r) refl)))

expire_right : (now height : ℕ) (q : Queue) (room : ℕ) → Right (rules (expiring now height) q room) (rule_checks (expiring now height) q room)
unfolding expire
expire_right now height q room = cases (any? (due? now height) q.recs)
    (λ t. cases (ltb top (q.counter + count (due? now height) q.recs))
    (λ u. rw (t, u) (first 15 ids_bytes q room _ refl))
    (λ u. rw (t, u) (recheck (last ids_bytes q _ room Whole _) refl)))
    (λ t. rw t (recheck (last ids_bytes q q room Nothing []) refl))

reconcile_right : (a : ReconcileArgs) (q : Queue) (room : ℕ) → Right (rules (reconciling a) q room) (rule_checks (reconciling a) q room)
unfolding reconcile
reconcile_right a q room =
    to (any? (λ r. is_some (touch c (own_of c q) r)) q.recs) (touched_recs c q) (to_release c q)
  where
    c : Reconciling
    c = reconciliation a

    to : (changed : Bool) (l : List Rec) (ids : List Id)
        → Right (worked released_bytes q room (reconcile_to (reconciliation a) q changed l ids)) ((15, ltb top (q.counter + length ids)) ∷ (4, ltb room (length (answer released_bytes (reconcile_to (reconciliation a) q changed l ids)))) ∷ [])
    to changed l ids = cases (ltb top (q.counter + length ids))
        (λ t. rw t (first 15 released_bytes q room _ refl))
        (λ t. cases (changed || not (is_empty? ids))
        (λ u. rw (t, u) (recheck (last released_bytes q _ room Whole _) refl))
        (λ u. cases (leb (min (q.persisted + 32) top_height) (reconciliation a).height)
        (λ v. rw (t, u, v) (recheck (last released_bytes q _ room Cursor _) refl))
        (λ v. rw (t, u, v) (recheck (last released_bytes q _ room Memory _) refl))))

rules_right : (c : Call) (q : Queue) (room : ℕ) → Right (rules c q room) (rule_checks c q room)
unfolding reopen set_cursor
rules_right (admitting a) q room = admit_right a q room
rules_right (cancelling i) q room = cancel_right i q room
rules_right (expiring now height) q room = expire_right now height q room
rules_right (reconciling a) q room = reconcile_right a q room
rules_right (reopening ids) q room = cases (any? (listed? (items 32 ids)) q.recs) (λ t. rw t (silent q _ room Whole tt)) (λ t. rw t (silent q q room Nothing tt))
rules_right (setting_cursor height flag tip) q room = silent q _ room Memory tt

work_right : (c : Call) (q : Queue) (lent room : ℕ) → Right (work c q lent room) ((2, ltb lent (need q.limits)) ∷ (5, not (shape? c)) ∷ rule_checks c q room)
unfolding work
work_right c q lent room = cases (ltb lent (need q.limits))
    (λ t. rw t (record { number = refl; empty = λ n h. refl }))
    (λ t. cases (shape? c) (λ u. rw (t, u) (recheck (rules_right c q room) refl)) (λ u. rw (t, u) (record { number = refl; empty = λ n h. refl })))

-- on lent bytes
lent_kept : (w : Worked) (next out : Bytes) (n : ℕ) → w.answer ≡ Refused n → w.bytes ≡ [] → (on_lent next out w).1 ≡ (next, out)
unfolding over
lent_kept w next out n e b = ap (λ a. (next_area a w.next next, over w.bytes out)) e ∙ ap (λ s. (next, over s out)) b

call_answers : (c : Call) (cur next out : Bytes) → Answers (call_of c cur next out) (next, out) (call_checks c cur (length next) (length out))
unfolding call_of
call_answers c cur next out = go (read_area cur) refl
  where
    go : (o : Option Queue) → read_area cur ≡ o → Answers (call_of c cur next out) (next, out) (call_checks c cur (length next) (length out))
    go none e = rw e (no 3 (next, out) _ refl)
    go (some q) e = let r = work_right c q (length next) (length out) in rw e (record { number = r.number; kept = λ n h k. lent_kept (work c q (length next) (length out)) next out n h (r.empty n h) })

-- ---- the others

outcome_one : (kind outcome : ℕ) → settle_shape? kind outcome ≡ true → eqb outcome 0 ≡ false → eqb outcome 1 ≡ true
outcome_one kind outcome s z =
    let a = and_true (eqb kind 2 || eqb kind 3) (leb outcome 1) s in
    let b = leb-true outcome 1 a.1 in
    let c = eqb-false outcome 0 z in
    eq-eqb outcome 1 (omega arith)

settle_answers : (cur next : Bytes) (kind outcome : ℕ) → Answers (settle_of cur next kind outcome) next (settle_checks cur next kind outcome)
unfolding settle_of
settle_answers cur next kind outcome = go (read_area cur) refl
  where
    next_go : (q : Queue) → read_area cur ≡ some q → (eqb kind 2 && eqb outcome 1) ≡ false → (o : Option Queue) → read_area next ≡ o
        → Answers (settle_of cur next kind outcome) next (settle_checks cur next kind outcome)
    next_go q e b none f = rw (e, b, f) (no 3 next _ refl)
    next_go q e b (some x) f = cases (settle_shape? kind outcome)
        (λ s. cases (eqb outcome 0)
        (λ z. let k : eqb outcome 1 ≡ false = let y = eqb-true outcome 0 z in ne_eqb outcome 1 (λ h. omega arith) in rw (e, b, f, s, z, k) (yes Nothing next next _ refl))
        (λ z. rw (e, b, f, s, z, outcome_one kind outcome s z) (record { number = refl; kept = λ n h k. absurd (k (refused_17 h)) })))
        (λ s. rw (e, b, f, s) (no 5 next _ refl))

    go : (o : Option Queue) → read_area cur ≡ o → Answers (settle_of cur next kind outcome) next (settle_checks cur next kind outcome)
    go none e = rw e (no 3 next _ refl)
    go (some q) e = cases (eqb kind 2 && eqb outcome 1)
        (λ b.
        let k = and_true (eqb kind 2) (eqb outcome 1) b in
        let s : settle_shape? kind outcome ≡ true = let y = eqb-true outcome 1 k.1 in rw (k.0, y) in
        cases (ltb (length next) (need q.limits))
        (λ t. rw (e, b, t) (no 2 next _ refl))
        (λ t. rw (e, b, t, s, k.1) (record { number = refl; kept = λ n h k. absurd (k (refused_17 h)) })))
        (λ b. next_go q e b (read_area next) refl)

fresh_answers : (p b t k : ℕ) (shares area : Bytes) → Answers (fresh_of p b t k shares area) area (fresh_checks (limits_of p b t k shares) (length shares) (length area))
unfolding fresh_of
fresh_answers p b t k shares area =
    let m = limits_of p b t k shares in
    cases (in_range m)
    (λ r. cases (eqb (length shares) 64)
    (λ w. cases (shares_right? m)
    (λ s. cases (ltb (length area) (need m)) (λ u. rw (r, w, s, u) (no 2 area _ refl)) (λ u. rw (r, w, s, u) (yes Nothing _ area _ refl)))
    (λ s. rw (r, w, s) (no 1 area _ refl)))
    (λ w. cases (ltb (length area) (need m)) (λ u. rw (r, w, u) (no 2 area _ refl)) (λ u. rw (r, w, u) (no 5 area _ refl))))
    (λ r. rw r (no 1 area _ refl))

sound_answers : (area : Bytes) → refusal (sound_of area) ≡ first_of ((3, unsound? area) ∷ [])
unfolding sound_of
sound_answers area = cases (is_some (read_area area)) (λ t. rw t) (λ t. rw t)

image_answers : (area out : Bytes) (old : ℕ) → Answers (image_of area out old) (out, old) (on area λ q. (4, ltb (length out) (length (image_bytes q))) ∷ [])
unfolding image_of
image_answers area out old = go (read_area area) refl
  where
    go : (o : Option Queue) → read_area area ≡ o → Answers (image_of area out old) (out, old) (on area λ q. (4, ltb (length out) (length (image_bytes q))) ∷ [])
    go none e = rw e (no 3 (out, old) _ refl)
    go (some q) e = cases (ltb (length out) (length (image_bytes q))) (λ t. rw (e, t) (no 4 (out, old) _ refl)) (λ t. rw (e, t) (yes Nothing _ (out, old) _ refl))

open_answers : (text area : Bytes)
    → Answers (open_of text area) area ((16, not (is_some (read_image text))) ∷ maybe [] (λ q. (2, ltb (length area) (need q.limits)) ∷ []) (read_image text))
unfolding open_of
open_answers text area = go (read_image text) refl
  where
    go : (o : Option Queue) → read_image text ≡ o
        → Answers (open_of text area) area ((16, not (is_some (read_image text))) ∷ maybe [] (λ q. (2, ltb (length area) (need q.limits)) ∷ []) (read_image text))
    go none e = rw e (no 16 area _ refl)
    go (some q) e = cases (ltb (length area) (need q.limits)) (λ t. rw (e, t) (no 2 area _ refl)) (λ t. rw (e, t) (yes Nothing _ area _ refl))

need_answers : (m : Limits) (old : ℕ) → Answers (need_of m old) old ((1, not (in_range m)) ∷ [])
unfolding need_of
need_answers m old = cases (in_range m) (λ t. rw t (yes Nothing _ old _ refl)) (λ t. rw t (no 1 old _ refl))

limits_answers : (text : Bytes) (old : Five) (shares : Bytes)
    → Answers (image_limits_of text old shares) (old, shares) ((16, not (is_some (read_image text))) ∷ maybe [] (λ q. (4, ltb (length shares) 64) ∷ []) (read_image text))
unfolding image_limits_of
limits_answers text old shares = go (read_image text) refl
  where
    go : (o : Option Queue) → read_image text ≡ o → Answers (image_limits_of text old shares) (old, shares) ((16, not (is_some (read_image text))) ∷ maybe [] (λ q. (4, ltb (length shares) 64) ∷ []) (read_image text))
    go none e = rw e (no 16 (old, shares) _ refl)
    go (some q) e = cases (ltb (length shares) 64) (λ t. rw (e, t) (no 4 (old, shares) _ refl)) (λ t. rw (e, t) (yes Nothing _ (old, shares) _ refl))

convert_answers : (text out : Bytes) (old : ℕ) → Answers (convert_of text out old) (out, old) (convert_checks text (length out))
unfolding convert_of
convert_answers text out old = go (read_newest text) refl
  where
    go : (o : Option Queue) → read_newest text ≡ o → Answers (convert_of text out old) (out, old) (convert_checks text (length out))
    go none e = rw e (no 16 (out, old) _ refl)
    go (some q) e = cases (says? oldest q)
        (λ s. cases (ltb (length out) (length (image_under oldest q))) (λ t. rw (e, s, t) (no 4 (out, old) _ refl)) (λ t. rw (e, s, t) (yes Nothing _ (out, old) _ refl)))
        (λ s. rw (e, s) (no 22 (out, old) _ refl))

read_answers : (f : Queue → Bytes) (area out : Bytes) → Answers (read_of f area out) out (on area λ q. (4, ltb (length out) (length (f q))) ∷ [])
unfolding read_of
read_answers f area out = go (read_area area) refl
  where
    go : (o : Option Queue) → read_area area ≡ o → Answers (read_of f area out) out (on area λ q. (4, ltb (length out) (length (f q))) ∷ [])
    go none e = rw e (no 3 out _ refl)
    go (some q) e = cases (ltb (length out) (length (f q))) (λ t. rw (e, t) (no 4 out _ refl)) (λ t. rw (e, t) (yes Nothing _ out _ refl))

number_answers : (f : Queue → ℕ) (area : Bytes) (old : ℕ) → Answers (number_of f area old) old (on area λ q. [])
unfolding number_of
number_answers f area old = go (read_area area) refl
  where
    go : (o : Option Queue) → read_area area ≡ o → Answers (number_of f area old) old (on area λ q. [])
    go none e = rw e (no 3 old _ refl)
    go (some q) e = rw e (yes Nothing _ old _ refl)

-- 3, 5, and what is then asked of the record
look_answers : {A : Type 0} (area id : Bytes) (old : A) (f : Queue → Rec → Answer × A) (says : Option Rec → Checks)
    → 13 ≡ first_of (says none) → ((q : Queue) (r : Rec) → Answers (f q r) old (says (some r)))
    → Answers (look_up area id old f) old (on area λ q. (5, not (id? id)) ∷ says (find (named? id) q.recs))
look_answers area id old f says h g = go (read_area area) refl
  where
    rec : (q : Queue) (o : Option Rec) → read_area area ≡ some q → id? id ≡ true → find (named? id) q.recs ≡ o
        → Answers (look_up area id old f) old (on area λ q. (5, not (id? id)) ∷ says (find (named? id) q.recs))
    rec q none e t k = rw (e, t, k) (no 13 old _ h)
    rec q (some r) e t k = let u = g q r in rw (e, t, k) (record { number = u.number; kept = u.kept })

    go : (o : Option Queue) → read_area area ≡ o → Answers (look_up area id old f) old (on area λ q. (5, not (id? id)) ∷ says (find (named? id) q.recs))
    go none e = rw e (no 3 old _ refl)
    go (some q) e = cases (id? id) (λ t. rec q (find (named? id) q.recs) e t refl) (λ t. rw (e, t) (no 5 old _ refl))

entry_answers : (area id out : Bytes)
    → Answers (entry_of area id out) out (on area λ q. (5, not (id? id)) ∷ (13, not (is_some (find (named? id) q.recs))) ∷ (4, maybe false (λ r. ltb (length out) (length (entry_bytes r))) (find (named? id) q.recs)) ∷ [])
unfolding entry_of
entry_answers area id out = look_answers area id out _ (λ o. (13, not (is_some o)) ∷ (4, maybe false (λ r. ltb (length out) (length (entry_bytes r))) o) ∷ []) refl
    (λ q r. cases (ltb (length out) (length (entry_bytes r))) (λ t. rw t (no 4 out _ refl)) (λ t. rw t (yes Nothing _ out _ refl)))

signed_answers : (area id : Bytes) (old : ℕ × ℕ)
    → Answers (signed_bytes_of area id old) old (on area λ q. (5, not (id? id)) ∷ (13, maybe true (λ r. not (holder? r)) (find (named? id) q.recs)) ∷ [])
unfolding signed_bytes_of
signed_answers area id old = look_answers area id old _ (λ o. (13, maybe true (λ r. not (holder? r)) o) ∷ []) refl (λ q r. by q r.body)
  where
    by : (q : Queue) (o : Option Held) → Answers (maybe (Refused 13, old) (λ h. (Done Nothing, signed_part id q h)) o) old ((13, not (is_some o)) ∷ [])
    by q none = no 13 old _ refl
    by q (some h) = yes Nothing _ old _ refl

fees_answers : (area : Bytes) (limit budget now height : ℕ) (out : Bytes)
    → Answers (best_fees_of area limit budget now height out) out (on area λ q. fees_checks (candidates now height q) limit budget (length out))
unfolding best_fees_of search_of
fees_answers area limit budget now height out = go (read_area area) refl
  where
    go : (o : Option Queue) → read_area area ≡ o → Answers (best_fees_of area limit budget now height out) out (on area λ q. fees_checks (candidates now height q) limit budget (length out))
    go none e = rw e (no 3 out _ refl)
    go (some q) e = cases (budget? budget)
        (λ t. cases (ltb top (total fee_of (candidates now height q)))
        (λ u. rw (e, t, u) (no 21 out _ refl))
        (λ u. cases (ltb (length out) (length (best_bytes (best_fees_value size_of fee_of (candidates now height q) limit budget)))) (λ v. rw (e, t, u, v) (no 4 out _ refl)) (λ v. rw (e, t, u, v) (yes Nothing _ out _ refl))))
        (λ t. rw (e, t) (no 5 out _ refl))

pub demand_1 : Demand1
demand_1 = record {
  changing = call_answers;
  settling = settle_answers;
  fresh = fresh_answers;
  sound = sound_answers;
  image = image_answers;
  opening = open_answers;
  need = need_answers;
  limits = limits_answers;
  converting = convert_answers;
  reading = read_answers;
  number = number_answers;
  entry = entry_answers;
  signed = signed_answers;
  fees = fees_answers;
}

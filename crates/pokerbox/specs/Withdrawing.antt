-- Document 02, P1: withdrawn stays withdrawn. What is kept through every list: whoever is in the history has no holder, neither in
-- the queue nor in the stored queue ('a tombstone or absent'); the calls' laws are in the queue's `NoHolder`.
use Rattle.std.specs.Prelude.{◌≡◌, refl, Bool, true, false, cond, not, List, [], ◌∷◌, ◌++◌, ℕ, ltb, length}
use Rattle.std.proofs.Common.{ap, sym, subst, ◌∙◌}
use Rattle.std.proofs.Math.Option.{Option, none, some}
use Rattle.std.proofs.lemmas.Bool.{not-true}
use Rattle.queue.specs.declared.Kind.TheVariants.{Nothing, Memory, Whole, Cursor}
use Rattle.queue.specs.paper.Answer.{Answer, Refused, Done}
use Rattle.queue.specs.Codec.{cases, All, all_append}
use Rattle.queue.specs.Lists.{sub_all}
use Rattle.queue.specs.bytes.ListLaws.{all_with, filter_sub, filter_all}
use Rattle.queue.specs.bytes.ReaderLaws.{false_true}
use Rattle.queue.specs.bytes.OrderLaws.{same_is, or_false, or_true}
use Rattle.queue.specs.Areas.{read_area}
use Rattle.queue.specs.theorems.SoundParts.{Fit}
use Rattle.queue.specs.theorems.NoHolder.{NoHolder, LeavesNoHolder, WritesNoHolder, admit_no_holder, cancel_no_holder, cancel_finishes, expire_no_holder, expire_finishes, reconcile_no_holder, reopen_no_holder, set_cursor_no_holder, unnamed_among, no_holder_unselected}
use Rattle.queue.specs.paper.Records.{Bytes, Id, Limits, Rec, Queue}
use Rattle.queue.specs.paper.Lists.{filter}
use Rattle.queue.specs.paper.Ids.{same?}
use Rattle.queue.specs.paper.Sound.{limits_right?, need, among?}
use Rattle.queue.specs.paper.Area.{area_bytes}
use Rattle.queue.specs.paper.Changing.{Out, refused, done, named?, moved, admit, cancel, expire, reconcile, reopen, set_cursor}
use Rattle.queue.specs.paper.Reading.{selected_at, selection_at}
use Rattle.queue.specs.paper.Calls.{items, given, entry_bytes, ids_bytes, released_bytes, nothing_bytes, Call, admitting, cancelling, expiring, reconciling, reopening, setting_cursor, admission, reconciliation, shape?, over_k?, worked, rules, work, by_kind}
use Rattle.queue.specs.paper.Fees.{best_fees_value, candidates, size_of, fee_of}
use Rattle.queue.specs.paper.Parents.{waits_for?, parents_first_at}
use Rattle.queue.specs.read.parents.Laws.{all_in, in_all}
use Rattle.queue.specs.read.parents.Claims.{selected_once, such}
use Rattle.pokerbox.specs.paper.Machine.{Fate, kept, failed, cut_before, cut_after, Step, call, cut, run, Plain, restart, wrote, settling, plain_step, world_step}
use Rattle.pokerbox.specs.paper.Claim.{StepOk, StepsOk, mover, moved_by}
use Rattle.pokerbox.specs.paper.Withdrawn.{withdraws, admits, History, with_write, resumed, noted, history_by, history, NotSelected, WithdrawnUnselected, kept_here?, kept_ids, NotAdmitted, after, WithdrawnStays}
use Rattle.pokerbox.specs.Answers.{Good, work_good}
use Rattle.pokerbox.specs.Runs.{Inv, restart_inv, step_same, images}
use Rattle.pokerbox.specs.Theorem.{world, in_area, template, best_set}

-- ---- what a call asks to be written

-- an id without a holder stays so but for an admission of it; those that are withdrawn have none
abbrev Written : Call → Queue → Queue → Type 0
Written c q x = ((i : Id) → among? i (admits c q) ≡ false → NoHolder i q.recs → NoHolder i x.recs) × All (λ i. NoHolder i x.recs) (withdraws c q)

abbrev WrittenBy : Call → Queue → Answer → Queue → Type 0
WrittenBy c q (Refused n) x = Unit {0}
WrittenBy c q (Done Nothing) x = Unit {0}
WrittenBy c q (Done Memory) x = Unit {0}
WrittenBy c q (Done Whole) x = Written c q x
WrittenBy c q (Done Cursor) x = Unit {0}

-- whatever the length of the output
worked_written : {A : Type 0} (bytes : A → Bytes) (room : ℕ) (c : Call) (q : Queue) (o : Out A) → ((i : Id) → among? i (admits c q) ≡ false → NoHolder i q.recs → LeavesNoHolder i o)
    → All (λ i. WritesNoHolder i o) (withdraws c q) → WrittenBy c q (worked bytes q room o).answer (worked bytes q room o).next
worked_written bytes room c q (refused n) g w = tt
worked_written bytes room c q (done Nothing x a) g w = cases (ltb room (length (bytes a))) (λ t. rw t tt) (λ t. rw t tt)
worked_written bytes room c q (done Memory x a) g w = cases (ltb room (length (bytes a))) (λ t. rw t tt) (λ t. rw t tt)
worked_written bytes room c q (done Whole x a) g w = cases (ltb room (length (bytes a))) (λ t. rw t tt) (λ t. rw t (g, w))
worked_written bytes room c q (done Cursor x a) g w = cases (ltb room (length (bytes a))) (λ t. rw t tt) (λ t. rw t tt)

rules_written : (c : Call) (q : Queue) (room : ℕ) → Fit q → WrittenBy c q (rules c q room).answer (rules c q room).next
rules_written (admitting a) q room f = cases (over_k? q.limits.K a)
    (λ v. rw v tt)
    (λ v. rw v (worked_written entry_bytes room (admitting a) q (admit (admission a) q) (λ i e h. admit_no_holder i (admission a) q (or_false (same? i a.id) false e).0 h) tt))
rules_written (cancelling j) q room f = worked_written entry_bytes room (cancelling j) q (cancel j q) (λ i _ h. cancel_no_holder i j q h) (cancel_finishes j q, tt)
rules_written (expiring now height) q room f =
    worked_written ids_bytes room (expiring now height) q (expire now height q) (λ i _ h. expire_no_holder i now height q h) (expire_finishes now height q f.sound.rising)
rules_written (reconciling a) q room f = worked_written released_bytes room (reconciling a) q (reconcile (reconciliation a) q) (λ i _ h. reconcile_no_holder i (reconciliation a) q h) tt
rules_written (reopening ids) q room f = worked_written nothing_bytes room (reopening ids) q (reopen (items 32 ids) q) (λ i _ h. reopen_no_holder i (items 32 ids) q h) tt
rules_written (setting_cursor height flag tip) q room f =
    worked_written nothing_bytes room (setting_cursor height flag tip) q (set_cursor height (given flag tip) q) (λ i _ h. set_cursor_no_holder i height (given flag tip) q h) tt

work_written : (c : Call) (q : Queue) (lent room : ℕ) → Fit q → WrittenBy c q (work c q lent room).answer (work c q lent room).next
unfolding work
work_written c q lent room f = cases (ltb lent (need q.limits))
    (λ t. rw t tt)
    (λ t. cases (shape? c) (λ u. rw (t, u) (rules_written c q room f)) (λ u. rw (t, u) tt))

-- ---- what holds between steps

abbrev Covers : List Rec → List Id → Type 0
Covers recs l = All (λ i. NoHolder i recs) l

-- of the queue, and of the one that a restart would give
pub record Covered (m : Limits) (p : Plain) (h : History) : Type 0 where
  pub now : Covers p.queue.recs h.now
  pub stored : Covers (restart m p.stored).queue.recs (resumed h.stored).now

resumed_covered : (m : Limits) (o : Option Queue) (s : Option (List Id)) → Covers (restart m o).queue.recs (resumed s).now → Covered m (restart m o) (resumed s)
resumed_covered m none s k = record { now = k; stored = k }
resumed_covered m (some q) s k = record { now = k; stored = k }

with_covers : (c : Call) (q x : Queue) (l : List Id) → Written c q x → Covers q.recs l → Covers x.recs (with_write c q l)
with_covers c q x l w k =
    all_append (λ i. NoHolder i x.recs) (withdraws c q) (filter (λ i. not (among? i (admits c q))) l) w.1
    (all_with (λ i. not (among? i (admits c q)) ≡ true) (λ i. NoHolder i q.recs) (λ i. NoHolder i x.recs) (λ i e g. w.0 i (not-true (among? i (admits c q)) e) g)
    (filter (λ i. not (among? i (admits c q))) l) (filter_all (λ i. not (among? i (admits c q))) l) (sub_all (λ i. NoHolder i q.recs) (filter_sub (λ i. not (among? i (admits c q))) l) k))

module _ (m : Limits) (p : Plain) (h : History) (v : Covered m p h) where
  -- a write of x that was due; lost: the queue after a failed one
  noted_covered : (x lost : Queue) (l : List Id) → Covers x.recs l → Covers lost.recs h.now → (fate : Fate) → Covered m (wrote m p x lost fate).1 (noted h l fate)
  unfolding moved
  noted_covered x lost l k o kept = record { now = k; stored = k }
  noted_covered x lost l k o (failed second) = record { now = o; stored = v.stored }
  noted_covered x lost l k o (cut_before second) = resumed_covered m p.stored h.stored v.stored
  noted_covered x lost l k o cut_after = resumed_covered m (some x) (some l) k

  settled_covered : (near : Bool) (c : Call) (x : Queue) (fate : Fate) (a : Answer) → Good near p.queue a x → WrittenBy c p.queue a x
      → Covered m (settling m p x fate a).1 (by_kind a h h (noted h (with_write c p.queue h.now) fate) (noted h h.now fate))
  unfolding moved
  settled_covered near c x fate (Refused n) g w = v
  settled_covered near c x fate (Done Nothing) g w = v
  settled_covered near c x fate (Done Memory) g w = record { now = subst (λ r. Covers r h.now) (sym g.1.0) v.now; stored = v.stored }
  settled_covered near c x fate (Done Whole) g w = noted_covered x p.queue (with_write c p.queue h.now) (with_covers c p.queue x h.now w v.now) v.now fate
  settled_covered near c x fate (Done Cursor) g w =
      let k = subst (λ r. Covers r h.now) (sym g.1) v.now in
      noted_covered x (moved p.queue.persisted x.cursor x.tip x) h.now k k fate

  step_covered : (old : Bool) (x : Step) → Inv m old p → StepOk m p x → Covered m (plain_step m p x).1 (history_by p h x)
  unfolding plain_step
  step_covered old (call c l fate) i o =
      let w = work c p.queue (length l.next) (length l.out) in
      settled_covered (mover c p.queue old) c w.next fate w.answer
      (work_good c p.queue (length l.next) (length l.out) old o.0 i.fit) (work_written c p.queue (length l.next) (length l.out) i.fit)
  step_covered old (cut l) i o = resumed_covered m p.stored h.stored v.stored

step_inv : (m : Limits) → limits_right? m ≡ true → (old : Bool) (p : Plain) (x : Step) → Inv m old p → StepOk m p x → Inv m (moved_by p old x) (plain_step m p x).1
step_inv m range old p x i o =
    (step_same m range old p (record { area = area_bytes p.queue ++ []; file = images p.stored; second = none }) x i (record { later = []; area = refl; file = refl }) o).inv

run_covered : (m : Limits) → limits_right? m ≡ true → (xs : List Step) (old : Bool) (p : Plain) (h : History) → Inv m old p → Covered m p h → StepsOk m p xs
    → Covered m (run (plain_step m) p xs).1 (history m p h xs)
run_covered m range [] old p h i v o = v
run_covered m range (x ∷ xs) old p h i v o =
    run_covered m range xs (moved_by p old x) (plain_step m p x).1 (history_by p h x) (step_inv m range old p x i o.0) (step_covered m p h v old x i o.0) o.1

-- After every list: whoever is in the history is a tombstone or absent, in the queue and in what a restart would give.
pub covered : (m : Limits) (xs : List Step) → limits_right? m ≡ true → StepsOk m (restart m none) xs → Covered m (after m xs) (history m (restart m none) (resumed none) xs)
covered m xs range ok = run_covered m range xs false (restart m none) (resumed none) (restart_inv m false none range tt) (resumed_covered m none none tt) ok

-- ---- nobody of the history is selected

pub not_selected : (area : Bytes) (q : Queue) (i : Id) → read_area area ≡ some q → Fit q → NoHolder i q.recs → NotSelected area q i
unfolding selection_at
not_selected area q i e f g = record {
  told = λ now height out. (template area q now height e f).told out;
  absent = λ now height. unnamed_among i (selected_at now height q) (no_holder_unselected i now height q f g);
  absent_best = λ limit budget now height.
      unnamed_among i (best_fees_value size_of fee_of (candidates now height q) limit budget).set
      (sub_all (λ r. named? i r ≡ false) (best_set area q limit budget now height e f).part (no_holder_unselected i now height q f g));
  absent_first = λ now height.
      unnamed_among i (parents_first_at now height q)
      (in_all (λ r. named? i r ≡ false) (parents_first_at now height q)
      (λ r h. all_in (λ r. named? i r ≡ false) (selected_at now height q) (no_holder_unselected i now height q f g) r ((such waits_for? (selected_at now height q) (selected_once now height q f.sound.rising)).chosen r h)));
}

among_all : (P : Id → Type 0) (l : List Id) (i : Id) → All P l → among? i l ≡ true → P i
among_all P [] i h e = false_true e
among_all P (x ∷ l) i h e = or_true (same? i x) (among? i l) e (λ t. subst P (sym (same_is i x t)) h.0) (λ _ t. among_all P l i h.1 t)

pub withdrawn_unselected : WithdrawnUnselected
unfolding WithdrawnUnselected
withdrawn_unselected m first second xs range room ok i e =
    let s = in_area m first second xs range room ok in
    let h = (history m (restart m none) (resumed none) xs).now in
    not_selected (run (world_step m) (world m first second) xs).1.area (after m xs).queue i s.0 s.1
    (among_all (λ i. NoHolder i (after m xs).queue.recs) h i (covered m xs range ok).now e)

-- ---- who was withdrawn is in the history until an admission

among_left : (i : Id) (a b : List Id) → among? i a ≡ true → among? i (a ++ b) ≡ true
among_left i [] b e = false_true e
among_left i (x ∷ a) b e = or_true (same? i x) (among? i a) e (λ t. rw t) (λ u t. rw (u, among_left i a b t))

among_right : (i : Id) (a b : List Id) → among? i b ≡ true → among? i (a ++ b) ≡ true
among_right i [] b e = e
among_right i (x ∷ a) b e = cases (same? i x) (λ t. rw t) (λ t. rw (t, among_right i a b e))

among_filter : (i : Id) (p : Id → Bool) (l : List Id) → p i ≡ true → among? i l ≡ true → among? i (filter p l) ≡ true
among_filter i p [] h e = e
among_filter i p (x ∷ l) h e = or_true (same? i x) (among? i l) e
    (λ t. let k = ap p (sym (same_is i x t)) ∙ h in rw (k, t))
    (λ u t. cases (p x) (λ k. rw (k, u, among_filter i p l h t)) (λ k. rw (k, among_filter i p l h t)))

-- in the history now, and beside what a restart would give
abbrev InHistory : Id → History → Type 0
InHistory i h = (among? i h.now ≡ true) × (among? i (resumed h.stored).now ≡ true)

noted_there : (i : Id) (h : History) (l : List Id) (fate : Fate) → (kept_here? fate ≡ true → among? i l ≡ true) → InHistory i h → InHistory i (noted h l fate)
noted_there i h l kept k n = (k refl, k refl)
noted_there i h l (failed second) k n = n
noted_there i h l (cut_before second) k n = (n.1, n.1)
noted_there i h l cut_after k n = (k refl, k refl)

module _ (p : Plain) (h : History) (i : Id) where
  -- by a withdrawal that was kept
  withdrawal_there : (x : Step) → among? i (kept_ids withdraws p x) ≡ true → InHistory i (history_by p h x)
  withdrawal_there (call c l fate) e = go (work c p.queue (length l.next) (length l.out)).answer fate e
    where
      new : among? i (withdraws c p.queue) ≡ true → among? i (with_write c p.queue h.now) ≡ true
      new t = among_left i (withdraws c p.queue) (filter (λ j. not (among? j (admits c p.queue))) h.now) t

      put : (fate : Fate) → among? i (cond (kept_here? fate) (withdraws c p.queue) []) ≡ true → InHistory i (noted h (with_write c p.queue h.now) fate)
      put kept t = (new t, new t)
      put (failed second) t = false_true t
      put (cut_before second) t = false_true t
      put cut_after t = (new t, new t)

      go : (a : Answer) (fate : Fate) → among? i (by_kind a [] [] (cond (kept_here? fate) (withdraws c p.queue) []) []) ≡ true
          → InHistory i (by_kind a h h (noted h (with_write c p.queue h.now) fate) (noted h h.now fate))
      go (Refused n) fate t = false_true t
      go (Done Nothing) fate t = false_true t
      go (Done Memory) fate t = false_true t
      go (Done Whole) fate t = put fate t
      go (Done Cursor) fate t = false_true t
  withdrawal_there (cut l) e = false_true e

  -- who is there stays, but for an admission that was kept
  step_there : (x : Step) → among? i (kept_ids admits p x) ≡ false → InHistory i h → InHistory i (history_by p h x)
  step_there (call c l fate) e n = go (work c p.queue (length l.next) (length l.out)).answer e
    where
      old : among? i (admits c p.queue) ≡ false → among? i (with_write c p.queue h.now) ≡ true
      old t = among_right i (withdraws c p.queue) (filter (λ j. not (among? j (admits c p.queue))) h.now)
          (among_filter i (λ j. not (among? j (admits c p.queue))) h.now (ap not t) n.0)

      go : (a : Answer) → among? i (by_kind a [] [] (cond (kept_here? fate) (admits c p.queue) []) []) ≡ false
          → InHistory i (by_kind a h h (noted h (with_write c p.queue h.now) fate) (noted h h.now fate))
      go (Refused j) t = n
      go (Done Nothing) t = n
      go (Done Memory) t = n
      go (Done Whole) t = noted_there i h (with_write c p.queue h.now) fate (λ k. old (rw k at t)) n
      go (Done Cursor) t = noted_there i h h.now fate (λ _. n.0) n
  step_there (cut l) e n = (n.1, n.1)

run_there : (m : Limits) (xs : List Step) (p : Plain) (h : History) (i : Id) → NotAdmitted m p i xs → InHistory i h → InHistory i (history m p h xs)
run_there m [] p h i o n = n
run_there m (x ∷ xs) p h i o n = run_there m xs (plain_step m p x).1 (history_by p h x) i o.1 (step_there p h i x o.0 n)

history_both : (m : Limits) (xs ys : List Step) (p : Plain) (h : History) → history m p h (xs ++ ys) ≡ history m (run (plain_step m) p xs).1 (history m p h xs) ys
history_both m [] ys p h = refl
history_both m (x ∷ xs) ys p h = history_both m xs ys (plain_step m p x).1 (history_by p h x)

pub withdrawn_stays_withdrawn : WithdrawnStays
unfolding WithdrawnStays WithdrawnUnselected
withdrawn_stays_withdrawn m first second list range room ok xs x ys i e w o =
    let h = history m (restart m none) (resumed none) xs in
    let n = run_there m ys (plain_step m (after m xs) x).1 (history_by (after m xs) h x) i o (withdrawal_there (after m xs) h i x w) in
    withdrawn_unselected m first second list range room ok i
    (ap (λ z. among? i (history m (restart m none) (resumed none) z).now) e ∙ (ap (λ (z : History). among? i z.now) (history_both m xs (x ∷ ys) (restart m none) (resumed none)) ∙ n.0))

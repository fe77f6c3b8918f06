-- Document 02, P1: an id without a holder, a tombstone or absent, stays so under every call but its own admission; cancellation
-- and expiry leave those that they finish so; and such an id is in no selection.
use Rattle.std.specs.Prelude.{◌≡◌, refl, Bool, true, false, cond, not, ◌&&◌, ◌||◌, List, [], ◌∷◌, ℕ, ◌+◌, min, ltb, leb, eqb, length}
use Rattle.std.proofs.Common.{ap, sym, ◌∙◌}
use Rattle.std.proofs.Math.Option.{Option, none, some}
use Rattle.queue.specs.declared.Kind.TheVariants.{Nothing, Memory, Whole, Cursor}
use Rattle.queue.specs.Codec.{cases, All}
use Rattle.queue.specs.Lists.{Pairwise, and_true, all_map, both, sub_all}
use Rattle.queue.specs.bytes.ReaderLaws.{false_true}
use Rattle.queue.specs.bytes.ListLaws.{all_with, filter_sub, filter_all, map_all, insert_all, sort_all}
use Rattle.queue.specs.theorems.SoundParts.{Right, Before, Fit}
use Rattle.queue.specs.theorems.Forget.{forget_sub}
use Rattle.queue.specs.theorems.CallsKeeps.{pending_held}
use Rattle.queue.specs.theorems.ReconcileKeeps.{Diff, diff_sym, rising_diff, reconcile_to}
use Rattle.queue.specs.paper.Records.{Id, Rec, Queue, queued, conflicted, cancelled, expired}
use Rattle.queue.specs.paper.Lists.{maybe, is_some, is_empty?, all?, any?, count, filter, find, map}
use Rattle.queue.specs.paper.Ids.{below?, same?}
use Rattle.queue.specs.paper.Sound.{holder?, pending?, mined?, wanted, label_len, among?, clash?, crossed?}
use Rattle.queue.specs.paper.Changing.{Out, refused, done, top, top_height, named?, committed, moved, Admission, reached?, new_rec, put, pendings, pending_bytes, pendings_of, share_of, admit_new, admit, finished, finish_those, forget, finish_all, cancel, due?, expire, Applied, Reconciling, confirmed?, confirm, judge, touch_found, touch, own_of, touched_recs, to_release, place_in, release_one, trimmed, reconcile, reopened, listed?, reopen, set_cursor}
use Rattle.queue.specs.paper.Reading.{first?, selected?, selected_at}

-- a record is no holder of this id; no record is, so that the id is a tombstone's or nobody's
abbrev pub NotHolder : Id → Rec → Type 0
NotHolder i r = named? i r ≡ true → holder? r ≡ false

abbrev pub NoHolder : Id → List Rec → Type 0
NoHolder i l = All (NotHolder i) l

-- in what a call leaves, if it is not refused
abbrev pub LeavesNoHolder : {A : Type 0} → Id → Out A → Type 0
LeavesNoHolder i (refused n) = Unit {0}
LeavesNoHolder i (done k x a) = NoHolder i x.recs

-- in what a call asks to be written whole
abbrev pub WritesNoHolder : {A : Type 0} → Id → Out A → Type 0
WritesNoHolder i (refused n) = Unit {0}
WritesNoHolder i (done Nothing x a) = Unit {0}
WritesNoHolder i (done Memory x a) = Unit {0}
WritesNoHolder i (done Whole x a) = NoHolder i x.recs
WritesNoHolder i (done Cursor x a) = Unit {0}

-- ---- admission of another id

put_no_holder : (i : Id) (r : Rec) (l : List Rec) → NotHolder i r → NoHolder i l → NoHolder i (put r l)
put_no_holder i r l f h = insert_all (λ x y. below? x.id y.id) (NotHolder i) r (filter (λ x. not (named? r.id x)) l) f (sub_all (NotHolder i) (filter_sub (λ x. not (named? r.id x)) l) h)

new_not_holder : (i : Id) (a : Admission) → same? i a.id ≡ false → NotHolder i (new_rec a)
unfolding new_rec
new_not_holder i a e n = false_true (sym e ∙ n)

pub admit_no_holder : (i : Id) (a : Admission) (q : Queue) → same? i a.id ≡ false → NoHolder i q.recs → LeavesNoHolder i (admit a q)
unfolding admit committed
admit_no_holder i a q e h = cases (reached? a.due a.now)
    (λ t. rw t tt)
    (λ t. cases (reached? a.due_height a.tip_height)
    (λ u. rw (t, u) tt)
    (λ u. cases (ltb 200 (label_len a.label))
    (λ v. rw (t, u, v) tt)
    (λ v. rw (t, u, v) (found (find (named? a.id) q.recs)))))
  where
    new : LeavesNoHolder i (admit_new a q)
    new = cases (leb q.limits.P (pendings q.recs))
        (λ t. rw t tt)
        (λ t. cases (leb (share_of a.caller q.limits) (pendings_of a.caller q.recs))
        (λ w. rw (t, w) tt)
        (λ w. cases (ltb q.limits.B (pending_bytes q.recs + length a.held.bytes))
        (λ u. rw (t, w, u) tt)
        (λ u. cases (clash? a.held.ins q.recs) (λ v. rw (t, w, u, v) tt) (λ v. cases (crossed? a.held.ins a.held.reads q.recs) (λ x. rw (t, w, u, v, x) tt) (λ x. rw (t, w, u, v, x) (put_no_holder i (new_rec a) q.recs (new_not_holder i a e) h))))))

    found : (o : Option Rec) → LeavesNoHolder i (maybe (admit_new a q) (λ r. cond (pending? r.state || mined? r) (done Nothing q r) (admit_new a q)) o)
    found none = new
    found (some r) = cases (pending? r.state || mined? r) (λ t. rw t h) (λ t. rw t new)

-- ---- cancellation and expiry

-- where each record that is not finished is no holder of it
finish_no_holder : (i : Id) (p : Rec → Bool) (state reason n : ℕ) (l : List Rec) → All (λ r. p r ≡ false → NotHolder i r) l → NoHolder i (finish_those p state reason n l)
unfolding finish_those finished
finish_no_holder i p state reason n [] h = tt
finish_no_holder i p state reason n (r ∷ l) h = cases (p r)
    (λ t. rw t (λ _. refl, finish_no_holder i p state reason (n + 1) l h.1))
    (λ t. rw t (h.0 t, finish_no_holder i p state reason n l h.1))

module _ {A : Type 0} (i : Id) (p : Rec → Bool) (state reason : ℕ) (answer : A) (q : Queue) (h : All (λ r. p r ≡ false → NotHolder i r) q.recs) where
  written_no_holder : NoHolder i (forget q.limits.T (finish_those p state reason q.counter q.recs))
  written_no_holder = sub_all (NotHolder i) (forget_sub q.limits.T (finish_those p state reason q.counter q.recs)) (finish_no_holder i p state reason q.counter q.recs h)

  finish_all_leaves : LeavesNoHolder i (finish_all p state reason answer q)
  unfolding committed
  finish_all_leaves = cases (ltb top (q.counter + count p q.recs)) (λ t. rw t tt) (λ t. rw t written_no_holder)

  finish_all_writes : WritesNoHolder i (finish_all p state reason answer q)
  unfolding committed
  finish_all_writes = cases (ltb top (q.counter + count p q.recs)) (λ t. rw t tt) (λ t. rw t written_no_holder)

abbrev cancel_found : Id → Queue → Option Rec → Out Rec
cancel_found i q o = maybe (refused 13)
    (λ r. cond (mined? r) (refused 14)
    (cond (holder? r) (finish_all (named? i) cancelled 1 (finished cancelled 1 (q.counter + 1) r) q) (done Nothing q r))) o

pub cancel_no_holder : (i j : Id) (q : Queue) → NoHolder i q.recs → LeavesNoHolder i (cancel j q)
unfolding cancel
cancel_no_holder i j q h = go (find (named? j) q.recs)
  where
    go : (o : Option Rec) → LeavesNoHolder i (cancel_found j q o)
    go none = tt
    go (some r) = cases (mined? r)
        (λ t. rw t tt)
        (λ t. cases (holder? r)
        (λ u. rw (t, u) (finish_all_leaves i (named? j) cancelled 1 (finished cancelled 1 (q.counter + 1) r) q (all_map q.recs (λ x f _. f) h)))
        (λ u. rw (t, u) h))

-- the cancelled id
pub cancel_finishes : (i : Id) (q : Queue) → WritesNoHolder i (cancel i q)
unfolding cancel
cancel_finishes i q = go (find (named? i) q.recs)
  where
    others : (l : List Rec) → All (λ r. named? i r ≡ false → NotHolder i r) l
    others [] = tt
    others (r ∷ l) = (λ e n. false_true (sym e ∙ n), others l)

    go : (o : Option Rec) → WritesNoHolder i (cancel_found i q o)
    go none = tt
    go (some r) = cases (mined? r)
        (λ t. rw t tt)
        (λ t. cases (holder? r)
        (λ u. rw (t, u) (finish_all_writes i (named? i) cancelled 1 (finished cancelled 1 (q.counter + 1) r) q (others q.recs)))
        (λ u. rw (t, u) tt))

pub expire_no_holder : (i : Id) (now height : ℕ) (q : Queue) → NoHolder i q.recs → LeavesNoHolder i (expire now height q)
unfolding expire
expire_no_holder i now height q h = cases (any? (due? now height) q.recs)
    (λ t. rw t (finish_all_leaves i (due? now height) expired 2 (map (λ r. r.id) (filter (due? now height) q.recs)) q (all_map q.recs (λ x f _. f) h)))
    (λ t. rw t h)

-- one record has an id
abbrev Only : List Rec → Rec → Type 0
Only l r = All (λ x. named? r.id x ≡ true → x ≡ r) l

only : (l : List Rec) → Pairwise Diff l → All (Only l) l
only [] h = tt
only (a ∷ l) h = (
  (λ _. refl, all_map l (λ x d n. false_true (sym d ∙ n)) h.0),
  all_with (Diff a) (Only l) (Only (a ∷ l)) (λ r d o. (λ n. false_true (sym (diff_sym a r d) ∙ n), o)) l h.0 (only l h.1),
)

-- every id that an expiry finishes, also one that T makes it forget in the same call
pub expire_finishes : (now height : ℕ) (q : Queue) → Pairwise Before q.recs → All (λ i. WritesNoHolder i (expire now height q)) (map (λ r. r.id) (filter (due? now height) q.recs))
unfolding expire
expire_finishes now height q rising =
    ids (filter (due? now height) q.recs) (all_with (λ r. due? now height r ≡ true) (Only q.recs) (λ r. WritesNoHolder r.id (expire now height q)) one (filter (due? now height) q.recs)
    (filter_all (due? now height) q.recs) (sub_all (Only q.recs) (filter_sub (due? now height) q.recs) (only q.recs (rising_diff q.recs rising))))
  where
    ids : (l : List Rec) → All (λ r. WritesNoHolder r.id (expire now height q)) l → All (λ i. WritesNoHolder i (expire now height q)) (map (λ r. r.id) l)
    ids [] h = tt
    ids (r ∷ l) h = (h.0, ids l h.1)

    one : (r : Rec) → due? now height r ≡ true → Only q.recs r → WritesNoHolder r.id (expire now height q)
    one r e o = cases (any? (due? now height) q.recs)
        (λ t. rw t (finish_all_writes r.id (due? now height) expired 2 (map (λ r. r.id) (filter (due? now height) q.recs)) q
        (all_map q.recs (λ x k z n. false_true (sym z ∙ (ap (due? now height) (k n) ∙ e))) o)))
        (λ t. rw t tt)

-- ---- reconciliation

judge_not_holder : (i : Id) (state reason : ℕ) (r : Rec) → NotHolder i r → NotHolder i (maybe r (λ x. x) (judge state reason r))
judge_not_holder i state reason r h = cases (eqb r.state state && eqb r.reason reason) (λ t. rw t h) (λ t. rw t h)

touch_not_holder : (i : Id) (c : Reconciling) (own : List Id) (r : Rec) → NotHolder i r → NotHolder i (maybe r (λ x. x) (touch c own r))
unfolding touch confirm
touch_not_holder i c own r h = go (find (λ a. same? r.id a.id) c.applied)
  where
    go : (o : Option Applied) → NotHolder i (maybe r (λ x. x) (touch_found c.caught_up own r o))
    go (some a) = cases (mined? r && confirmed? a r.place) (λ t. rw t h) (λ t. rw t h)
    go none = cases (c.caught_up && pending? r.state)
        (λ t. cases (all? (λ j. among? j own) (wanted r.body)) (λ u. rw (t, u) (judge_not_holder i queued 0 r h)) (λ u. rw (t, u) (judge_not_holder i conflicted 5 r h)))
        (λ t. rw t h)

touched_no_holder : (i : Id) (c : Reconciling) (q : Queue) → NoHolder i q.recs → NoHolder i (touched_recs c q)
unfolding touched_recs
touched_no_holder i c q h = map_all (NotHolder i) (NotHolder i) (λ r. maybe r (λ x. x) (touch c (own_of c q) r)) (λ r f. touch_not_holder i c (own_of c q) r f) q.recs h

release_not_holder : (i : Id) (n : ℕ) (ids : List Id) (r : Rec) → NotHolder i r → NotHolder i (release_one n ids r)
unfolding finished
release_not_holder i n ids r h = cases (eqb (place_in r.id ids) 0) (λ t. rw t h) (λ t. rw t (λ _. refl))

trimmed_no_holder : (i : Id) (t : ℕ) (ids : List Id) (l : List Rec) → NoHolder i l → NoHolder i (trimmed t ids l)
trimmed_no_holder i t [] l h = h
trimmed_no_holder i t (x ∷ ids) l h = sub_all (NotHolder i) (forget_sub t l) h

pub reconcile_no_holder : (i : Id) (c : Reconciling) (q : Queue) → NoHolder i q.recs → LeavesNoHolder i (reconcile c q)
unfolding reconcile committed moved
reconcile_no_holder i c q h = go (any? (λ r. is_some (touch c (own_of c q) r)) q.recs) (touched_recs c q) (to_release c q) (touched_no_holder i c q h)
  where
    go : (changed : Bool) (l : List Rec) (ids : List Id) → NoHolder i l → LeavesNoHolder i (reconcile_to c q changed l ids)
    go changed l ids g = cases (ltb top (q.counter + length ids))
        (λ t. rw t tt)
        (λ t. cases (changed || not (is_empty? ids))
        (λ u. rw (t, u) (trimmed_no_holder i q.limits.T ids (map (release_one q.counter ids) l) (map_all (NotHolder i) (NotHolder i) (release_one q.counter ids) (release_not_holder i q.counter ids) l g)))
        (λ u. cases (leb (min (q.persisted + 32) top_height) c.height) (λ v. rw (t, u, v) h) (λ v. rw (t, u, v) h)))

-- ---- reopening and cursor setting

pub reopen_no_holder : (i : Id) (ids : List Id) (q : Queue) → NoHolder i q.recs → LeavesNoHolder i (reopen ids q)
unfolding reopen committed reopened
reopen_no_holder i ids q h = cases (any? (listed? ids) q.recs)
    (λ t. rw t (map_all (NotHolder i) (NotHolder i) (λ r. cond (listed? ids r) (reopened r) r) on q.recs h))
    (λ t. rw t h)
  where
    on : (r : Rec) → NotHolder i r → NotHolder i (cond (listed? ids r) (reopened r) r)
    on r f = cases (listed? ids r) (λ t. rw t f) (λ t. rw t f)

pub set_cursor_no_holder : (i : Id) (height : ℕ) (tip : Option Id) (q : Queue) → NoHolder i q.recs → LeavesNoHolder i (set_cursor height tip q)
unfolding set_cursor moved
set_cursor_no_holder i height tip q h = h

-- ---- in no selection

-- no record of a list has this id
abbrev pub Unnamed : Id → List Rec → Type 0
Unnamed i l = All (λ r. named? i r ≡ false) l

pub unnamed_among : (i : Id) (l : List Rec) → Unnamed i l → among? i (map (λ r. r.id) l) ≡ false
unnamed_among i [] h = refl
unnamed_among i (r ∷ l) h = rw h.0 (unnamed_among i l h.1)

-- at no time and no height: a Queued record is a holder
pub no_holder_unselected : (i : Id) (now height : ℕ) (q : Queue) → Fit q → NoHolder i q.recs → Unnamed i (selected_at now height q)
no_holder_unselected i now height q f h = sort_all first? (λ r. named? i r ≡ false) (filter (selected? now height) q.recs)
    (all_with (λ r. selected? now height r ≡ true) (λ r. Right q.limits.K q.counter r × NotHolder i r) (λ r. named? i r ≡ false) one (filter (selected? now height) q.recs)
    (filter_all (selected? now height) q.recs) (sub_all (λ r. Right q.limits.K q.counter r × NotHolder i r) (filter_sub (selected? now height) q.recs) (both (Right q.limits.K q.counter) (NotHolder i) q.recs f.sound.right h)))
  where
    pending : (s : ℕ) → eqb s queued ≡ true → pending? s ≡ true
    pending s e = rw e

    one : (r : Rec) → selected? now height r ≡ true → Right q.limits.K q.counter r × NotHolder i r → named? i r ≡ false
    one r e k =
        let s = (and_true (eqb r.state queued) (not (reached? r.terms.due now) && not (reached? r.terms.due_height height)) e).0 in
        let held = pending_held r.state (holder? r) (pending r.state s) k.0.held in
        cases (named? i r) (λ t. false_true (sym (k.1 t) ∙ held)) (λ t. t)

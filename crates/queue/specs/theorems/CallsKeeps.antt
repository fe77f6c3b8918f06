-- What a changing call leaves: a sound queue with numbers that fit. Fresh queues, cursor setting, cancellation, expiry, reopening.
use Rattle.std.specs.Prelude.{◌≡◌, refl, Bool, true, false, cond, not, ◌&&◌, ◌||◌, List, [], ◌∷◌, ℕ, ◌+◌, ◌^◌, ◌≤◌, ◌<◌, ltb, leb, eqb, length, ◌≢◌}
use Rattle.std.proofs.Common.{ap, sym, ◌∙◌, arith, mod-lt, ltb-false, leb-true, le-leb, eqb-true, ne_eqb}
use Rattle.std.proofs.Math.Option.{Option, none, some}
use Rattle.std.proofs.lemmas.Bool.{not-true}
use Rattle.queue.specs.Codec.{cases, All, opt_c}
use Rattle.queue.specs.layout.FrameCodec.{id_c, place_c, body_k, body_c}
use Rattle.queue.specs.Lists.{Pairwise, and_true, and_both, all_map, sub_all}
use Rattle.queue.specs.bytes.ReaderLaws.{false_true}
use Rattle.queue.specs.bytes.OrderLaws.{same_is, same_self, below_not_same, or_true}
use Rattle.queue.specs.bytes.ListLaws.{and_false, all_every, all_with, pairwise_with, find_all, find_only, total_eq, map_all, map_pairwise, map_total, map_total_le}
use Rattle.queue.specs.theorems.SoundParts.{range_of, Right, Before, Distinct, Apart, Sound, Fields, Fit}
use Rattle.queue.specs.theorems.Forget.{Core, core_sound, forget_sub, forget_sound}
use Rattle.queue.specs.declared.Kind.{Kind}
use Rattle.queue.specs.declared.Kind.TheVariants.{Nothing, Memory, Whole, Cursor}
use Rattle.queue.specs.paper.Records.{Id, Limits, Held, Rec, Queue, queued, mined, conflicted, cancelled, expired}
use Rattle.queue.specs.paper.Lists.{is_some, one, any?, total, count, filter, find, map, maybe}
use Rattle.queue.specs.paper.Ids.{same?}
use Rattle.queue.specs.paper.Sound.{limits_right?, holder?, pending?, mined?, content, mined_holders, held_right?, reason_right?, place_right?, mark_right?, finish_right?}
use Rattle.queue.specs.paper.Changing.{Out, refused, done, top, named?, committed, moved, finished, finish_those, forget, finish_all, cancel, due?, expire, reopened, listed?, reopen, set_cursor}
use Rattle.queue.specs.paper.Calls.{fresh}

-- what else the kind says of the next queue
abbrev pub Level : Kind → Queue → Queue → Type 0
Level Nothing q q' = q' ≡ q
Level Memory q q' = q'.persisted ≡ q.persisted
Level Whole q q' = q'.persisted ≡ q'.cursor
Level Cursor q q' = q'.persisted ≡ q'.cursor

pub record Kept (k : Kind) (q q' : Queue) : Type 0 where
  pub fit : Fit q'
  pub limits : q'.limits ≡ q.limits
  pub level : Level k q q'

-- nothing but a queue that is kept
abbrev pub Leaves : {A : Type 0} → Queue → Out A → Type 0
Leaves q (refused n) = Unit {0}
Leaves q (done k q' a) = Kept k q q'

pub leaves_kept : {A : Type 0} (q q' : Queue) (o : Out A) (k : Kind) (a : A) → Leaves q o → o ≡ done k q' a → Kept k q q'
leaves_kept q q' o k a h e = rw e at h

pub same_kept : (q : Queue) → Fit q → Kept Nothing q q
same_kept q f = record { fit = f; limits = refl; level = refl }

-- ---- queues that differ in marks alone

pub fresh_fit : (m : Limits) → limits_right? m ≡ true → Fit (fresh m)
unfolding opt_c
fresh_fit m e = record {
  sound = record { range = range_of m e; few = omega arith; few_holders = omega arith; few_bytes = omega arith; few_mined = omega arith; few_mined_bytes = omega arith; few_tombs = omega arith; right = tt; rising = tt; distinct = tt; apart = tt };
  persisted = omega arith;
  revision = omega arith;
  cursor = omega arith;
  tip = tt;
  counter = omega arith;
  recs = tt;
}

pub moved_fit : (p h : ℕ) (t : Option Id) (q : Queue) → p < 256 ^ 4 → h < 256 ^ 4 → (opt_c id_c).ok t → Fit q → Fit (moved p h t q)
unfolding moved
moved_fit p h t q a b c f = record { sound = f.sound; persisted = a; revision = f.revision; cursor = b; tip = c; counter = f.counter; recs = f.recs }

-- the settling step after a failed cursor write
pub settled_fit : (q x : Queue) → Fit q → Fit x → Fit (moved q.persisted x.cursor x.tip x)
settled_fit q x f g = moved_fit q.persisted x.cursor x.tip x f.persisted g.cursor g.tip g

pub set_cursor_leaves : (h : ℕ) (t : Option Id) (q : Queue) → Fit q → h < 256 ^ 4 → (opt_c id_c).ok t → Leaves q (set_cursor h t q)
unfolding set_cursor moved
set_cursor_leaves h t q f a b = record { fit = moved_fit q.persisted h t q f.persisted a b f; limits = refl; level = refl }

-- a whole write
pub committed_kept : (h : ℕ) (t : Option Id) (c : ℕ) (l : List Rec) (q : Queue) → Fit q → h < 256 ^ 4 → (opt_c id_c).ok t → c < 256 ^ 8
    → Sound q.limits c l → All Fields l → Kept Whole q (committed h t c l q)
unfolding committed
committed_kept h t c l q f a b d s k = record {
  fit = record { sound = s; persisted = a; revision = mod-lt (q.revision + 1) (omega arith); cursor = a; tip = b; counter = d; recs = k };
  limits = refl;
  level = refl;
}

-- ---- what a pending record is

pub pending_mined : (s : ℕ) → pending? s ≡ true → eqb s mined ≡ false
pending_mined s e = or_true (eqb s queued) (eqb s conflicted) e
    (λ t. let p = eqb-true s 0 t in ne_eqb s 2 (λ z. omega arith))
    (λ _ t. let p = eqb-true s 3 t in ne_eqb s 2 (λ z. omega arith))

pub pending_held : (s : ℕ) (h : Bool) → pending? s ≡ true → held_right? s h ≡ true → h ≡ true
pending_held s true p e = refl
pending_held s false p e = or_true (eqb s queued) (eqb s conflicted) p
    (λ t. let z = eqb-true s 0 t in false_true (rw z at e))
    (λ _ t. let z = eqb-true s 3 t in false_true (rw z at e))

pub unmined_place : (s : ℕ) (b : Bool) → eqb s mined ≡ false → place_right? s b ≡ true → b ≡ false
unmined_place s true n e = false_true (sym n ∙ e)
unmined_place s false n e = refl

pub unmined_mark : (s : ℕ) (h : Bool) (m : ℕ) → eqb s mined ≡ false → mark_right? s h m ≡ true → m ≡ 0
unmined_mark s h m n e = or_true (eqb m 0) _ e
    (λ t. eqb-true m 0 t)
    (λ _ t. let a = and_true (eqb m 3 || (eqb m 4 || eqb m 5)) (eqb s mined && not h) t in false_true (sym (rw n) ∙ a.1))

-- a later counter
pub finish_later : (c d : ℕ) (h : Bool) (n : ℕ) → c ≤ d → finish_right? c h n ≡ true → finish_right? d h n ≡ true
finish_later c d true n le e = e
finish_later c d false n le e = let a = and_true (leb 1 n) (leb n c) e in let b = leb-true n c a.1 in and_both (leb 1 n) (leb n d) a.0 (le-leb n d (omega arith))

pub right_later : (K c d : ℕ) (r : Rec) → c ≤ d → Right K c r → Right K d r
right_later K c d r le h = record { held = h.held; reason = h.reason; place = h.place; mark = h.mark; caller = h.caller; finish = finish_later c d (holder? r) r.finish le h.finish; label = h.label; ins = h.ins; outs = h.outs; reads = h.reads; size = h.size }

-- a tombstone's number is at most the counter
pub finish_le : (c : ℕ) (h : Bool) (n : ℕ) → finish_right? c h n ≡ true → h ≡ false → n ≤ c
finish_le c true n e z = false_true (sym z)
finish_le c false n e z = leb-true n c (and_true (leb 1 n) (leb n c) e).1

-- ---- finishing those that pass

module _ (p : Rec → Bool) (state reason : ℕ) where
  pub finish_all_law : (lo hi : ℕ) (P Q : Rec → Type 0)
      → ((k : ℕ) (r : Rec) → lo < k → k ≤ hi → p r ≡ true → Q r → P (finished state reason k r)) → ((r : Rec) → Q r → P r)
      → (n : ℕ) (l : List Rec) → lo ≤ n → n + count p l ≤ hi → All Q l → All P (finish_those p state reason n l)
  unfolding finish_those
  finish_all_law lo hi P Q f g n [] a b h = tt
  finish_all_law lo hi P Q f g n (r ∷ l) a b h = cases (p r)
      (λ t. let c : n + 1 + count p l ≤ hi = let z : one (p r) ≡ 1 = rw t in omega arith in
      rw t (f (n + 1) r (omega arith) (omega arith) t h.0, finish_all_law lo hi P Q f g (n + 1) l (omega arith) c h.1))
      (λ t. let c : n + count p l ≤ hi = omega arith in rw t (g r h.0, finish_all_law lo hi P Q f g n l a c h.1))

  pub finish_pairwise : (R : Rec → Rec → Type 0) → ((k : ℕ) (a b : Rec) → R a b → R (finished state reason k a) b) → ((k : ℕ) (a b : Rec) → R a b → R a (finished state reason k b))
      → (n : ℕ) (l : List Rec) → Pairwise R l → Pairwise R (finish_those p state reason n l)
  unfolding finish_those
  finish_pairwise R f g n [] h = tt
  finish_pairwise R f g n (r ∷ l) h = cases (p r)
      (λ t. rw t (finish_all_law n (n + 1 + count p l) _ (R r) (λ k s _ _ _ x. f (n + 1) r _ (g k r s x)) (λ s x. f (n + 1) r s x) (n + 1) l (omega arith) (omega arith) h.0, finish_pairwise R f g (n + 1) l h.1))
      (λ t. rw t (finish_all_law n (n + count p l) _ (R r) (λ k s _ _ _ x. g k r s x) (λ s x. x) n l (omega arith) (omega arith) h.0, finish_pairwise R f g n l h.1))

  -- the new numbers are above the counter, and rise
  pub finish_distinct : (K c : ℕ) (n : ℕ) (l : List Rec) → c ≤ n → All (Right K c) l → Pairwise Distinct l → Pairwise Distinct (finish_those p state reason n l)
  unfolding finish_those finished
  finish_distinct K c n [] a h d = tt
  finish_distinct K c n (r ∷ l) a h d = cases (p r)
      (λ t. rw t (
        finish_all_law (n + 1) (n + 1 + count p l) (Distinct (finished state reason (n + 1) r)) (Right K c)
            (λ k s lo _ _ _ _ _ e. absurd (omega arith))
            (λ s x _ z e. let y = finish_le c (holder? s) s.finish x.finish z in omega arith)
            (n + 1) l (omega arith) (omega arith) h.1,
        finish_distinct K c (n + 1) l (omega arith) h.1 d.1,
      ))
      (λ t. rw t (
        finish_all_law n (n + count p l) (Distinct r) (Distinct r)
            (λ k s lo _ _ _ z _ e. let y = finish_le c (holder? r) r.finish h.0.finish z in omega arith)
            (λ s x. x)
            n l (omega arith) (omega arith) d.0,
        finish_distinct K c n l a h.1 d.1,
      ))

  pub finish_total : (f : Rec → ℕ) → ((k : ℕ) (r : Rec) → f (finished state reason k r) ≤ f r) → (n : ℕ) (l : List Rec) → total f (finish_those p state reason n l) ≤ total f l
  unfolding finish_those
  finish_total f h n [] = omega arith
  finish_total f h n (r ∷ l) = cases (p r)
      (λ t. let i = finish_total f h (n + 1) l in let j = h (n + 1) r in rw t (omega arith))
      (λ t. let i = finish_total f h n l in rw t (omega arith))

-- how a record may end: its state and reason, as a tombstone
pub record Ending (state reason : ℕ) : Type 0 where
  pub held : held_right? state false ≡ true
  pub why : reason_right? state reason ≡ true
  pub unmined : eqb state mined ≡ false
  pub small : state < 256
  pub small_reason : reason < 256

pub no_place : (s : ℕ) (b : Bool) → b ≡ false → eqb s mined ≡ false → place_right? s b ≡ true
no_place s b e h = rw (e, h)

pub no_mark : (s m : ℕ) (b : Bool) → m ≡ 0 → mark_right? s b m ≡ true
no_mark s m b e = rw e

pub in_range_law : (c k : ℕ) → 1 ≤ k → k ≤ c → finish_right? c false k ≡ true
in_range_law c k a b = and_both (leb 1 k) (leb k c) (le-leb 1 k a) (le-leb k c b)

pub finished_right : (state reason : ℕ) → Ending state reason → (K c d k : ℕ) (r : Rec) → pending? r.state ≡ true → 1 ≤ k → k ≤ d → Right K c r → Right K d (finished state reason k r)
unfolding finished
finished_right state reason g K c d k r t a b h =
    let n = pending_mined r.state t in
    record {
      held = g.held;
      reason = g.why;
      place = no_place state (is_some r.place) (unmined_place r.state (is_some r.place) n h.place) g.unmined;
      mark = no_mark state r.mark false (unmined_mark r.state (holder? r) r.mark n h.mark);
      caller = h.caller;
      finish = in_range_law d k a b;
      label = h.label;
      ins = omega arith;
      outs = omega arith;
      reads = omega arith;
      size = refl;
    }

none_ok : body_c.ok none
unfolding body_k opt_c
none_ok = tt

pub finished_fields : (state reason k : ℕ) (r : Rec) → state < 256 → reason < 256 → k < 256 ^ 8 → Fields r → Fields (finished state reason k r)
unfolding finished
finished_fields state reason k r a b c h = record { id = h.id; caller = h.caller; state = a; reason = b; terms = h.terms; place = h.place; mark = h.mark; finish = c; body = none_ok }

-- a record without inputs and read ids is apart from any
pub finished_apart : (state reason k : ℕ) (a b : Rec) → Apart a (finished state reason k b)
unfolding finished
finished_apart state reason k a b = (λ i h. refl, (λ i h. refl, λ i h. refl))

pub apart_finished : (state reason k : ℕ) (a b : Rec) → Apart (finished state reason k a) b
unfolding finished
apart_finished state reason k a b = (λ i h. false_true h, (λ i h. false_true h, λ i h. false_true h))

module _ (p : Rec → Bool) (state reason : ℕ) (g : Ending state reason) (q : Queue) (f : Fit q) (only : All (λ r. p r ≡ true → pending? r.state ≡ true) q.recs) where
  abbrev finishing : List Rec
  finishing = finish_those p state reason q.counter q.recs

  finishing_core : Core q.limits (q.counter + count p q.recs) finishing
  unfolding finished
  finishing_core =
      let s = f.sound in
      let c = q.counter in
      let l = q.recs in
      let n = q.counter + count p q.recs in
      record {
        range = s.range;
        few_holders = let a = finish_total p state reason (λ r. one (holder? r)) (λ k r. omega arith) c l in let b = s.few_holders in omega arith;
        few_bytes = let a = finish_total p state reason (λ r. length (content r.body)) (λ k r. omega arith) c l in let b = s.few_bytes in omega arith;
        few_mined = let a = finish_total p state reason (λ r. one (mined? r && holder? r)) (λ k r. rw g.unmined (omega arith)) c l in let b = s.few_mined in omega arith;
        few_mined_bytes = let a = finish_total p state reason (λ r. cond (mined? r) (length (content r.body)) 0) (λ k r. rw g.unmined (omega arith)) c l in let b = s.few_mined_bytes in omega arith;
        right = finish_all_law p state reason c n (Right q.limits.K n) (λ r. (p r ≡ true → pending? r.state ≡ true) × Right q.limits.K c r)
            (λ k r lo hi t h. finished_right state reason g q.limits.K c n k r (h.0 t) (omega arith) hi h.1)
            (λ r h. right_later q.limits.K c n r (omega arith) h.1)
            c l (omega arith) (omega arith)
            (all_with _ _ _ (λ r a b. (a, b)) l only s.right);
        rising = finish_pairwise p state reason Before (λ k a b h. h) (λ k a b h. h) c l s.rising;
        distinct = finish_distinct p state reason q.limits.K c c l (omega arith) s.right s.distinct;
        apart = finish_pairwise p state reason Apart (λ k a b h. apart_finished state reason k a b) (λ k a b h. finished_apart state reason k a b) c l s.apart;
      }

  pub finish_all_leaves : {A : Type 0} (answer : A) → Leaves q (finish_all p state reason answer q)
  finish_all_leaves answer = cases (ltb top (q.counter + count p q.recs))
      (λ t. rw t tt)
      (λ t. let room = ltb-false top (q.counter + count p q.recs) t in
      rw t (committed_kept q.cursor q.tip (q.counter + count p q.recs) (forget q.limits.T finishing) q f f.cursor f.tip (omega arith)
      (forget_sound q.limits (q.counter + count p q.recs) finishing finishing_core)
      (sub_all Fields (forget_sub q.limits.T finishing)
      (finish_all_law p state reason q.counter (q.counter + count p q.recs) Fields Fields
      (λ k r lo hi _ h. finished_fields state reason k r g.small g.small_reason (omega arith) h)
      (λ r h. h)
      q.counter q.recs (omega arith) (omega arith) f.recs))))

-- ---- cancellation

-- one record at most has an id
pub named_once : (i : Id) (l : List Rec) → Pairwise Before l → Pairwise (λ a b. named? i a ≡ true → named? i b ≢ true) l
named_once i l h = pairwise_with (λ r. Unit {0}) Before (λ a b. named? i a ≡ true → named? i b ≢ true) (λ a b _ _ k x y.
    let p = same_is i a.id x in
    let q = same_is i b.id y in
    let z = below_not_same a.id b.id k in
    let w : same? a.id b.id ≡ true = rw (← p, ← q) (same_self i) in
    false_true (sym z ∙ w)) l (all_every _ (λ r. tt) l) h

pub held_pending : (s : ℕ) (h : Bool) → eqb s mined ≡ false → h ≡ true → held_right? s h ≡ true → pending? s ≡ true
held_pending s true n _ e = or_true (pending? s && true) _ e
    (λ t. (and_true (pending? s) true t).0)
    (λ _ t. or_true ((eqb s cancelled || eqb s expired) && false) (eqb s mined) t
    (λ u. false_true (sym (and_false (eqb s cancelled || eqb s expired)) ∙ u))
    (λ _ u. false_true (sym n ∙ u)))
held_pending s false n z e = false_true z

pub cancel_ending : Ending cancelled 1
cancel_ending = record { held = refl; why = refl; unmined = refl; small = omega arith; small_reason = omega arith }

pub expire_ending : Ending expired 2
expire_ending = record { held = refl; why = refl; unmined = refl; small = omega arith; small_reason = omega arith }

module _ (i : Id) (q : Queue) (f : Fit q) where
  pub cancel_leaves : Leaves q (cancel i q)
  unfolding cancel
  cancel_leaves = found (find (named? i) q.recs) refl
    where
      found : (o : Option Rec) → find (named? i) q.recs ≡ o → Leaves q (maybe (refused 13) (λ r. cond (mined? r) (refused 14) (cond (holder? r) (finish_all (named? i) cancelled 1 (finished cancelled 1 (q.counter + 1) r) q) (done Nothing q r))) o)
      found none e = tt
      found (some r) e = cases (mined? r)
          (λ t. rw t tt)
          (λ t. cases (holder? r)
          (λ u. let k = find_all (named? i) (Right q.limits.K q.counter) q.recs r e f.sound.right in
          let w = held_pending r.state (holder? r) t u k.0.held in
          rw (t, u) (finish_all_leaves (named? i) cancelled 1 cancel_ending q f
          (all_map q.recs (λ x z n. ap (λ (y : Rec). pending? y.state) (z n) ∙ w) (find_only (named? i) q.recs (named_once i q.recs f.sound.rising) r e)) _))
          (λ u. rw (t, u) (same_kept q f)))

-- ---- expiry

due_pending : (now height : ℕ) (r : Rec) → due? now height r ≡ true → pending? r.state ≡ true
unfolding due?
due_pending now height r e = (and_true (pending? r.state) _ e).0

module _ (now height : ℕ) (q : Queue) (f : Fit q) where
  pub expire_leaves : Leaves q (expire now height q)
  unfolding expire
  expire_leaves = cases (any? (due? now height) q.recs)
      (λ t. rw t (finish_all_leaves (due? now height) expired 2 expire_ending q f (all_every _ (due_pending now height) q.recs) _))
      (λ t. rw t (same_kept q f))

-- ---- a change record by record that keeps ids, bodies and finish numbers

pub record Alike (r x : Rec) : Type 0 where
  pub id : x.id ≡ r.id
  pub body : x.body ≡ r.body
  pub finish : x.finish ≡ r.finish

module _ (h : Rec → Rec) (same : (r : Rec) → Alike r (h r)) (l : List Rec) where
  units : All (λ r. Unit {0}) l
  units = all_every _ (λ r. tt) l

  pub alike_rising : Pairwise Before l → Pairwise Before (map h l)
  alike_rising = map_pairwise (λ r. Unit {0}) Before Before h (λ a b _ _ k. rw ((same a).id, (same b).id) k) l units

  pub alike_distinct : Pairwise Distinct l → Pairwise Distinct (map h l)
  alike_distinct = map_pairwise (λ r. Unit {0}) Distinct Distinct h (λ a b _ _ k. rw ((same a).body, (same b).body, (same a).finish, (same b).finish) k) l units

  pub alike_apart : Pairwise Apart l → Pairwise Apart (map h l)
  alike_apart = map_pairwise (λ r. Unit {0}) Apart Apart h (λ a b _ _ k. rw ((same a).body, (same b).body) k) l units

  -- a weight of the body
  pub alike_total : (w : Option Held → ℕ) → total (λ r. w r.body) (map h l) ≡ total (λ r. w r.body) l
  alike_total w = map_total (λ r. Unit {0}) (λ r. w r.body) (λ r. w r.body) h (λ r _. ap w (same r).body) l units

-- Mined holders as a weight of Mined records
pub mined_weight : (l : List Rec) → mined_holders l ≡ total (λ r. cond (mined? r) (one (is_some r.body)) 0) l
mined_weight l = total_eq (λ r. one (mined? r && holder? r)) (λ r. cond (mined? r) (one (is_some r.body)) 0) (λ r. step (mined? r) (holder? r)) l
  where
    step : (a b : Bool) → one (a && b) ≡ cond a (one b) 0
    step true b = refl
    step false b = refl

-- ---- reopening

reopened_cases : (P : ℕ → ℕ → Bool → Type 0) → P 0 4 true → P 5 3 false → P 4 1 false → P 5 2 false
    → (h : Bool) (m s : ℕ) → mark_right? s h m ≡ true → P (cond (eqb m 0) (cond h queued expired) (cond (eqb m cancelled) cancelled expired)) (cond (eqb m 0) (cond h 4 3) (cond (eqb m cancelled) 1 (cond (eqb m expired) 2 3))) h
reopened_cases P a b c d h m s e = or_true (eqb m 0) _ e
    (λ t. rw t (pick h))
    (λ n t. let x = and_true (eqb m 3 || (eqb m 4 || eqb m 5)) (eqb s mined && not h) t in
    let y = not-true h (and_true (eqb s mined) (not h) x.1).1 in
    or_true (eqb m 3) (eqb m 4 || eqb m 5) x.0
    (λ u. let z = eqb-true m 3 u in rw (y, z) b)
    (λ _ v. or_true (eqb m 4) (eqb m 5) v
    (λ u. let z = eqb-true m 4 u in rw (y, z) c)
    (λ _ u. let z = eqb-true m 5 u in rw (y, z) d)))
  where
    pick : (h : Bool) → P (cond h queued expired) (cond h 4 3) h
    pick true = a
    pick false = b

pub reopened_right : (K c : ℕ) (r : Rec) → Right K c r → Right K c (reopened r)
unfolding reopened
reopened_right K c r x = record {
  held = reopened_cases (λ s _ h. held_right? s h ≡ true) refl refl refl refl (holder? r) r.mark r.state x.mark;
  reason = reopened_cases (λ s n _. reason_right? s n ≡ true) refl refl refl refl (holder? r) r.mark r.state x.mark;
  place = reopened_cases (λ s _ _. place_right? s false ≡ true) refl refl refl refl (holder? r) r.mark r.state x.mark;
  mark = refl;
  caller = x.caller;
  finish = x.finish;
  label = x.label;
  ins = x.ins;
  outs = x.outs;
  reads = x.reads;
  size = x.size;
}

pub reopened_unmined : (K c : ℕ) (r : Rec) → Right K c r → mined? (reopened r) ≡ false
unfolding reopened
reopened_unmined K c r x = reopened_cases (λ s _ _. eqb s mined ≡ false) refl refl refl refl (holder? r) r.mark r.state x.mark

pub reopened_fields : (K c : ℕ) (r : Rec) → Right K c r → Fields r → Fields (reopened r)
unfolding reopened place_c opt_c
reopened_fields K c r x h = record {
  id = h.id;
  caller = h.caller;
  state = reopened_cases (λ s _ _. s < 256) (omega arith) (omega arith) (omega arith) (omega arith) (holder? r) r.mark r.state x.mark;
  reason = reopened_cases (λ _ n _. n < 256) (omega arith) (omega arith) (omega arith) (omega arith) (holder? r) r.mark r.state x.mark;
  terms = h.terms;
  place = tt;
  mark = omega arith;
  finish = h.finish;
  body = h.body;
}

module _ (ids : List Id) (q : Queue) (f : Fit q) where
  abbrev again : Rec → Rec
  again r = cond (listed? ids r) (reopened r) r

  abbrev R : Rec → Type 0
  R = Right q.limits.K q.counter

  again_alike : (r : Rec) → Alike r (again r)
  unfolding reopened
  again_alike r = cases (listed? ids r) (λ t. rw t (record { id = refl; body = refl; finish = refl })) (λ t. rw t (record { id = refl; body = refl; finish = refl }))

  -- a weight of Mined records
  again_less : (w : Option Held → ℕ) → total (λ r. cond (mined? r) (w r.body) 0) (map again q.recs) ≤ total (λ r. cond (mined? r) (w r.body) 0) q.recs
  again_less w = map_total_le R (λ r. cond (mined? r) (w r.body) 0) (λ r. cond (mined? r) (w r.body) 0) again
      (λ r x. cases (listed? ids r) (λ t. rw (t, reopened_unmined q.limits.K q.counter r x) (omega arith)) (λ t. rw t (omega arith))) q.recs f.sound.right

  reopened_sound : Sound q.limits q.counter (map again q.recs)
  reopened_sound =
      let s = f.sound in
      core_sound q.limits q.counter (map again q.recs) (record {
        range = s.range;
        few_holders = let a = alike_total again again_alike q.recs (λ b. one (is_some b)) in let b = s.few_holders in omega arith;
        few_bytes = let a = alike_total again again_alike q.recs (λ b. length (content b)) in let b = s.few_bytes in omega arith;
        few_mined =
            let a = again_less (λ b. one (is_some b)) in
            let b = mined_weight q.recs in
            let c = mined_weight (map again q.recs) in
            let d = s.few_mined in
            omega arith;
        few_mined_bytes = let a = again_less (λ b. length (content b)) in let b = s.few_mined_bytes in omega arith;
        right = map_all R R again (λ r x. cases (listed? ids r) (λ t. rw t (reopened_right q.limits.K q.counter r x)) (λ t. rw t x)) q.recs s.right;
        rising = alike_rising again again_alike q.recs s.rising;
        distinct = alike_distinct again again_alike q.recs s.distinct;
        apart = alike_apart again again_alike q.recs s.apart;
      }) (let a = alike_total again again_alike q.recs (λ b. one (not (is_some b))) in let b = s.few_tombs in omega arith)

  pub reopen_leaves : Leaves q (reopen ids q)
  unfolding reopen
  reopen_leaves = cases (any? (listed? ids) q.recs)
      (λ t. rw t (committed_kept q.cursor q.tip q.counter (map again q.recs) q f f.cursor f.tip f.counter reopened_sound
      (map_all (λ r. R r × Fields r) Fields again (λ r x. cases (listed? ids r) (λ t. rw t (reopened_fields q.limits.K q.counter r x.0 x.1)) (λ t. rw t x.1)) q.recs
      (all_with _ _ _ (λ r a b. (a, b)) q.recs f.sound.right f.recs))))
      (λ t. rw t (same_kept q f))

-- ---- cancellation, expiry and reopening leave the queue or ask for a whole write

abbrev pub Wholly : {A : Type 0} → Out A → Type 0
Wholly (refused n) = Unit {0}
Wholly (done Nothing q a) = Unit {0}
Wholly (done Memory q a) = ⊥
Wholly (done Whole q a) = Unit {0}
Wholly (done Cursor q a) = ⊥

finish_all_wholly : (p : Rec → Bool) (state reason : ℕ) {A : Type 0} (a : A) (q : Queue) → Wholly (finish_all p state reason a q)
finish_all_wholly p state reason a q = cases (ltb top (q.counter + count p q.recs)) (λ t. rw t tt) (λ t. rw t tt)

pub cancel_wholly : (i : Id) (q : Queue) → Wholly (cancel i q)
unfolding cancel
cancel_wholly i q = found (find (named? i) q.recs)
  where
    found : (o : Option Rec) → Wholly (maybe (refused 13) (λ r. cond (mined? r) (refused 14) (cond (holder? r) (finish_all (named? i) cancelled 1 (finished cancelled 1 (q.counter + 1) r) q) (done Nothing q r))) o)
    found none = tt
    found (some r) = cases (mined? r)
        (λ t. rw t tt)
        (λ t. cases (holder? r) (λ u. rw (t, u) (finish_all_wholly (named? i) cancelled 1 (finished cancelled 1 (q.counter + 1) r) q)) (λ u. rw (t, u) tt))

pub expire_wholly : (now height : ℕ) (q : Queue) → Wholly (expire now height q)
unfolding expire
expire_wholly now height q = cases (any? (due? now height) q.recs)
    (λ t. rw t (finish_all_wholly (due? now height) expired 2 (map (λ r. r.id) (filter (due? now height) q.recs)) q))
    (λ t. rw t tt)

pub reopen_wholly : (ids : List Id) (q : Queue) → Wholly (reopen ids q)
unfolding reopen
reopen_wholly ids q = cases (any? (listed? ids) q.recs) (λ t. rw t tt) (λ t. rw t tt)

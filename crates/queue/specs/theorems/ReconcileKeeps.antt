-- What reconciliation leaves: each record by itself, then the walk over the Mined holders.
use Rattle.std.specs.Prelude.{◌≡◌, refl, Bool, true, false, cond, not, ◌&&◌, ◌||◌, List, [], ◌∷◌, ℕ, zero, suc, ◌+◌, ◌*◌, ◌-◌, ◌^◌, ◌≤◌, ◌<◌, min, ltb, leb, eqb, length, ◌≢◌}
use Rattle.std.proofs.Common.{sym, subst, ◌∙◌, arith, ltb-false, leb-false, eqb-true, eq-eqb, ne_eqb}
use Rattle.std.proofs.Math.Option.{Option, none, some}
use Rattle.std.proofs.lemmas.Bool.{eqb-false, not-true}
use Rattle.queue.specs.Codec.{cases, cond_cases, All, be_c, pair_c, opt_c}
use Rattle.queue.specs.layout.FrameCodec.{id_c, place_c}
use Rattle.queue.specs.Lists.{Pairwise, and_true, all_map, both_pairwise, sub_all, sub_pairwise, sub_total}
use Rattle.queue.specs.bytes.ReaderLaws.{false_true}
use Rattle.queue.specs.bytes.OrderLaws.{same_is, same_self, same_sym, below_not_same, or_false, or_true}
use Rattle.queue.specs.bytes.ListLaws.{one_le, all_every, all_with, pairwise_with, filter_sub, filter_total, total_eq, find_all, map_all, map_pairwise, map_total, map_total_le, sort_all, sort_total, sort_apart, length_total}
use Rattle.queue.specs.theorems.SoundParts.{InRange, Right, Before, Distinct, Apart, Sound, Fields, Fit}
use Rattle.queue.specs.theorems.Forget.{Core, core_sound, forget_sub, forget_sound}
use Rattle.queue.specs.theorems.CallsKeeps.{Leaves, moved_fit, committed_kept, pending_mined, pending_held, unmined_place, unmined_mark, no_place, no_mark, in_range_law, right_later, finish_le, finished_fields, apart_finished, finished_apart, Alike, alike_rising, alike_distinct, alike_apart, alike_total, mined_weight}
use Rattle.queue.specs.declared.Kind.TheVariants.{Nothing, Memory, Whole, Cursor}
use Rattle.queue.specs.paper.Records.{Id, Limits, Held, Rec, Queue, queued, mined, conflicted, cancelled, expired}
use Rattle.queue.specs.paper.Lists.{is_some, one, all?, any?, total, filter, find, sort, map, maybe, is_empty?}
use Rattle.queue.specs.paper.Ids.{same?}
use Rattle.queue.specs.paper.Sound.{holder?, pending?, mined?, wanted, content, among?, holders, holder_bytes, tombstones, held_right?, reason_right?, place_right?, mark_right?}
use Rattle.queue.specs.paper.Changing.{withdrawn_mark, Out, refused, done, top, top_height, moved, finished, Applied, Reconciling, confirmed?, confirm, judge, touch_found, touch, mined_height, newer?, releases, one_past, place_in, release_one, trimmed, reconcile, remade, own_of, touched_recs, to_release, committed}

abbrev pub AppliedOk : Applied → Type 0
AppliedOk a = (a.height < 256 ^ 4) × id_c.ok a.block

-- arguments that fit their fields
pub record Reconcilable (c : Reconciling) : Type 0 where
  pub height : c.height < 256 ^ 4
  pub tip : id_c.ok c.tip
  pub applied : All AppliedOk c.applied

-- the walk over any records
unfoldable pub released : Reconciling → Limits → List Rec → List Id
released c m l = releases m c.height c.window 0 0 (sort newer? (filter (λ r. mined? r && holder? r) l))

-- what a reconciliation says, given whether a record changed, the records then, and the ids released
abbrev pub reconcile_to : Reconciling → Queue → Bool → List Rec → List Id → Out (Bool × List Id)
reconcile_to c q changed l ids =
    cond (ltb top (q.counter + length ids)) (refused 15)
    (cond (changed || not (is_empty? ids))
    (done Whole
    (committed c.height (some c.tip) (q.counter + length ids) (trimmed q.limits.T ids (map (release_one q.counter ids) l)) q)
    (true, ids))
    (cond (leb (min (q.persisted + 32) top_height) c.height)
    (done Cursor (moved c.height c.height (some c.tip) q) (false, []))
    (done Memory (moved q.persisted c.height (some c.tip) q) (false, []))))

-- ---- each record by itself

module _ (P : Rec → Type 0) (c : Reconciling) (own : List Id) (ok : All AppliedOk c.applied) (r : Rec) (same : P r)
    (confirms : (a : Applied) → AppliedOk a → P (confirm a r)) (queues : pending? r.state ≡ true → P (remade queued 0 r.place r.mark r.finish r.body r)) (conflicts : pending? r.state ≡ true → P (remade conflicted 5 r.place r.mark r.finish r.body r)) where
  judge_cases : (fine : Bool) → pending? r.state ≡ true → P (maybe r (λ y. y) (cond fine (judge queued 0 r) (judge conflicted 5 r)))
  judge_cases true p = cases (eqb r.state queued && eqb r.reason 0) (λ t. rw t same) (λ t. rw t (queues p))
  judge_cases false p = cases (eqb r.state conflicted && eqb r.reason 5) (λ t. rw t same) (λ t. rw t (conflicts p))

  pub touch_cases : P (maybe r (λ y. y) (touch c own r))
  unfolding touch
  touch_cases = go (find (λ a. same? r.id a.id) c.applied) refl
    where
      go : (x : Option Applied) → find (λ a. same? r.id a.id) c.applied ≡ x → P (maybe r (λ y. y) (touch_found c.caught_up own r x))
      go (some a) e = let k = find_all (λ a. same? r.id a.id) AppliedOk c.applied a e ok in
          cases (mined? r && confirmed? a r.place) (λ t. rw t same) (λ t. rw t (confirms a k.0))
      go none e = cases (c.caught_up && pending? r.state)
          (λ t. rw t (judge_cases (all? (λ i. among? i own) (wanted r.body)) (and_true c.caught_up (pending? r.state) t).1))
          (λ t. rw t same)

withdrawn_tomb : (s : ℕ) (h : Bool) → held_right? s h ≡ true → (eqb s cancelled || eqb s expired) ≡ true → h ≡ false
withdrawn_tomb s false a t = refl
withdrawn_tomb s true a t = or_true (eqb s cancelled) (eqb s expired) t
    (λ u. let z = eqb-true s 4 u in false_true (rw z at a))
    (λ _ u. let z = eqb-true s 5 u in false_true (rw z at a))

or_right : (a : Bool) → (a || true) ≡ true
or_right true = refl
or_right false = refl

marked : (m : ℕ) (h : Bool) → (eqb m 3 || (eqb m 4 || eqb m 5)) ≡ true → h ≡ false → mark_right? mined h m ≡ true
marked m h x y = rw (x, y) (or_right (eqb m 0))

-- a mark stays right on a record that becomes Mined
mined_mark : (s : ℕ) (h : Bool) (m : ℕ) → mark_right? s h m ≡ true → mark_right? mined h m ≡ true
mined_mark s h m b = or_true (eqb m 0) _ b
    (λ u. rw u)
    (λ _ u. let x = and_true (eqb m 3 || (eqb m 4 || eqb m 5)) (eqb s mined && not h) u in marked m h x.0 (not-true h (and_true (eqb s mined) (not h) x.1).1))

confirm_mark : (s n : ℕ) (h : Bool) (m : ℕ) → held_right? s h ≡ true → mark_right? s h m ≡ true → mark_right? mined h (withdrawn_mark s n m) ≡ true
confirm_mark s n h m a b = cases (eqb s expired && eqb n 3)
    (λ t. let x = (and_true (eqb s expired) (eqb n 3) t).0 in rw t (marked 3 h refl (withdrawn_tomb s h a (rw x (or_right (eqb s cancelled))))))
    (λ t. cases (eqb s cancelled || eqb s expired)
    (λ u. rw (t, u) (marked s h (rw u (or_right (eqb s 3))) (withdrawn_tomb s h a u)))
    (λ u. rw (t, u) (mined_mark s h m b)))

confirm_right : (K c : ℕ) (a : Applied) (r : Rec) → Right K c r → Right K c (confirm a r)
unfolding confirm
confirm_right K c a r h = record { held = refl; reason = refl; place = refl; mark = confirm_mark r.state r.reason (holder? r) r.mark h.held h.mark; caller = h.caller; finish = h.finish; label = h.label; ins = h.ins; outs = h.outs; reads = h.reads; size = h.size }

held_now : (s : ℕ) (h : Bool) → h ≡ true → pending? s ≡ true → held_right? s h ≡ true
held_now s h e p = rw (e, p)

judged_right : (state reason : ℕ) → pending? state ≡ true → reason_right? state reason ≡ true → (K c : ℕ) (r : Rec) → pending? r.state ≡ true → Right K c r → Right K c (remade state reason r.place r.mark r.finish r.body r)
judged_right state reason p w K c r t h =
    let n = pending_mined r.state t in
    let k = unmined_place r.state (is_some r.place) n h.place in
    let m = unmined_mark r.state (holder? r) r.mark n h.mark in
    record {
      held = held_now state (holder? r) (pending_held r.state (holder? r) t h.held) p;
      reason = w;
      place = no_place state (is_some r.place) k (pending_mined state p);
      mark = no_mark state r.mark (holder? r) m;
      caller = h.caller;
      finish = h.finish;
      label = h.label;
      ins = h.ins;
      outs = h.outs;
      reads = h.reads;
      size = h.size;
    }

module _ (c : Reconciling) (own : List Id) (ok : All AppliedOk c.applied) where
  abbrev pub touched : Rec → Rec
  touched r = maybe r (λ y. y) (touch c own r)

  pub touched_right : (K n : ℕ) (r : Rec) → Right K n r → Right K n (touched r)
  touched_right K n r h = touch_cases (Right K n) c own ok r h (λ a _. confirm_right K n a r h) (λ p. judged_right queued 0 refl refl K n r p h) (λ p. judged_right conflicted 5 refl refl K n r p h)

  pub touched_alike : (r : Rec) → Alike r (touched r)
  unfolding confirm
  touched_alike r =
      touch_cases (Alike r) c own ok r (record { id = refl; body = refl; finish = refl })
      (λ a _. record { id = refl; body = refl; finish = refl }) (λ p. record { id = refl; body = refl; finish = refl }) (λ p. record { id = refl; body = refl; finish = refl })

  pub touched_fields : (r : Rec) → Fields r → Fields (touched r)
  unfolding confirm place_c opt_c pair_c be_c
  touched_fields r h = touch_cases Fields c own ok r h
      (λ a k. record { id = h.id; caller = h.caller; state = omega arith; reason = omega arith; terms = h.terms; place = k; mark = pick (eqb r.state expired && eqb r.reason 3) 3 _ (omega arith) (pick (eqb r.state cancelled || eqb r.state expired) r.state r.mark h.state h.mark); finish = h.finish; body = h.body })
      (λ p. record { id = h.id; caller = h.caller; state = omega arith; reason = omega arith; terms = h.terms; place = h.place; mark = h.mark; finish = h.finish; body = h.body })
      (λ p. record { id = h.id; caller = h.caller; state = omega arith; reason = omega arith; terms = h.terms; place = h.place; mark = h.mark; finish = h.finish; body = h.body })
    where
      pick : (t : Bool) (a b : ℕ) → a < 256 → b < 256 → cond t a b < 256
      pick true a b x y = x
      pick false a b x y = y

-- ---- the place of an id in a list

past_le : (n m : ℕ) → n ≤ m → one_past n ≤ suc m
past_le zero m h = omega arith
past_le (suc n) m h = omega arith

pub place_le : (i : Id) (l : List Id) → place_in i l ≤ length l
place_le i [] = omega arith
place_le i (j ∷ l) = let h = past_le (place_in i l) (length l) (place_le i l) in cases (same? i j) (λ t. rw t (omega arith)) (λ t. rw t h)

past_inj : (n m k : ℕ) → one_past n ≡ suc k → one_past m ≡ suc k → (n ≡ k) × (m ≡ k) × (1 ≤ k)
past_inj zero m k p q = absurd (omega arith)
past_inj (suc n) zero k p q = absurd (omega arith)
past_inj (suc n) (suc m) k p q = (omega arith, omega arith, omega arith)

past_one : (n : ℕ) → one_past n ≢ 1
past_one zero p = omega arith
past_one (suc n) p = omega arith

pub place_inj : (i j : Id) (l : List Id) (k : ℕ) → place_in i l ≡ suc k → place_in j l ≡ suc k → i ≡ j
place_inj i j [] k p q = absurd (omega arith)
place_inj i j (x ∷ l) k p q = cond_cases (same? i x) 1 (one_past (place_in i l)) (suc k) p
    (λ t p'. cond_cases (same? j x) 1 (one_past (place_in j l)) (suc k) q
    (λ u q'. let a = same_is i x t in let b = same_is j x u in cc)
    (λ u q'. absurd (past_one (place_in j l) (q' ∙ sym p'))))
    (λ t p'. cond_cases (same? j x) 1 (one_past (place_in j l)) (suc k) q
    (λ u q'. absurd (past_one (place_in i l) (p' ∙ sym q')))
    (λ u q'. step k (past_inj (place_in i l) (place_in j l) k p' q') (λ n. place_inj i j l n)))
  where
    step : (k : ℕ) → (place_in i l ≡ k) × (place_in j l ≡ k) × (1 ≤ k) → ((n : ℕ) → place_in i l ≡ suc n → place_in j l ≡ suc n → i ≡ j) → i ≡ j
    step zero b f = let z = b.2 in absurd (omega arith)
    step (suc n) b f = f n b.0 b.1

past_zero : (n : ℕ) → eqb (one_past n) 0 ≡ eqb n 0
past_zero zero = refl
past_zero (suc n) = ne_eqb (suc (suc n)) 0 (λ e. omega arith) ∙ sym (ne_eqb (suc n) 0 (λ e. omega arith))

-- ---- the walk

abbrev pub Diff : Rec → Rec → Type 0
Diff a b = same? a.id b.id ≡ false

pub diff_sym : (a b : Rec) → Diff a b → Diff b a
diff_sym a b h = same_sym b.id a.id ∙ h

pub rising_diff : (l : List Rec) → Pairwise Before l → Pairwise Diff l
rising_diff l h = pairwise_with (λ r. Unit {0}) Before Diff (λ a b _ _ k. below_not_same a.id b.id k) l (all_every _ (λ r. tt) l) h

-- the weight of what is not in a list of ids
abbrev unlisted : List Id → (Rec → ℕ) → Rec → ℕ
unlisted ids w r = cond (eqb (place_in r.id ids) 0) (w r) 0

module _ (m : Limits) (height window : ℕ) where
  abbrev release? : ℕ → ℕ → Rec → Bool
  release? n b r = leb window (height - mined_height r) || (leb m.P n || ltb m.B (b + length (content r.body)))

  -- an id that none of the list has is not released
  pub walk_other : (i : Id) (n b : ℕ) (l : List Rec) → All (λ s. same? i s.id ≡ false) l → place_in i (releases m height window n b l) ≡ 0
  unfolding releases
  walk_other i n b [] h = refl
  walk_other i n b (r ∷ l) h = let k = walk_other i (n + 1) (b + length (content r.body)) l h.1 in cases (release? n b r)
      (λ t. rw (t, h.0, k))
      (λ t. rw (t, k))

  -- one id more, for records of other ids
  unlisted_more : (w : Rec → ℕ) (r : Rec) (ids : List Id) (l : List Rec) → All (Diff r) l → total (unlisted (r.id ∷ ids) w) l ≡ total (unlisted ids w) l
  unlisted_more w r ids [] h = refl
  unlisted_more w r ids (s ∷ l) h = let i = unlisted_more w r ids l h.1 in
      let e : unlisted (r.id ∷ ids) w s ≡ unlisted ids w s = rw (same_sym s.id r.id, h.0, past_zero (place_in s.id ids)) in
      omega arith

  -- what is kept: at most P less those seen, and B less their bytes
  walk_few : (n b : ℕ) (l : List Rec) → Pairwise Diff l → total (unlisted (releases m height window n b l) (λ r. one (is_some r.body))) l ≤ m.P - n
  unfolding releases
  walk_few n b [] h = omega arith
  walk_few n b (r ∷ l) h =
      let i = walk_few (n + 1) (b + length (content r.body)) l h.1 in
      let ids = releases m height window (n + 1) (b + length (content r.body)) l in
      let k = walk_other r.id (n + 1) (b + length (content r.body)) l h.0 in
      cases (release? n b r)
      (λ t. let e : releases m height window n b (r ∷ l) ≡ r.id ∷ ids = rw t in
      let j = unlisted_more (λ r. one (is_some r.body)) r ids l h.0 in
      subst (λ z. total (unlisted z (λ r. one (is_some r.body))) (r ∷ l) ≤ m.P - n) (sym e) (rw (same_self r.id) (omega arith)))
      (λ t. let e : releases m height window n b (r ∷ l) ≡ ids = rw t in
      let u = or_false (leb window (height - mined_height r)) _ t in
      let v = or_false (leb m.P n) (ltb m.B (b + length (content r.body))) u.1 in
      let x = leb-false m.P n v.0 in
      let y = one_le (is_some r.body) in
      subst (λ z. total (unlisted z (λ r. one (is_some r.body))) (r ∷ l) ≤ m.P - n) (sym e) (rw k (omega arith)))

  walk_light : (n b : ℕ) (l : List Rec) → Pairwise Diff l → total (unlisted (releases m height window n b l) (λ r. length (content r.body))) l ≤ m.B - b
  unfolding releases
  walk_light n b [] h = omega arith
  walk_light n b (r ∷ l) h =
      let i = walk_light (n + 1) (b + length (content r.body)) l h.1 in
      let ids = releases m height window (n + 1) (b + length (content r.body)) l in
      let k = walk_other r.id (n + 1) (b + length (content r.body)) l h.0 in
      cases (release? n b r)
      (λ t. let e : releases m height window n b (r ∷ l) ≡ r.id ∷ ids = rw t in
      let j = unlisted_more (λ r. length (content r.body)) r ids l h.0 in
      subst (λ z. total (unlisted z (λ r. length (content r.body))) (r ∷ l) ≤ m.B - b) (sym e) (rw (same_self r.id) (omega arith)))
      (λ t. let e : releases m height window n b (r ∷ l) ≡ ids = rw t in
      let u = or_false (leb window (height - mined_height r)) _ t in
      let v = or_false (leb m.P n) (ltb m.B (b + length (content r.body))) u.1 in
      let x = ltb-false m.B (b + length (content r.body)) v.1 in
      subst (λ z. total (unlisted z (λ r. length (content r.body))) (r ∷ l) ≤ m.B - b) (sym e) (rw k (omega arith)))

pub filter_differs : (p : Rec → Bool) (l : List Rec) → Pairwise Diff l → All (λ r. p r ≡ false → All (Diff r) (filter p l)) l
filter_differs p [] h = tt
filter_differs p (x ∷ l) h = let i = filter_differs p l h.1 in cases (p x)
    (λ t. let e : filter p (x ∷ l) ≡ x ∷ filter p l = rw t in
    subst (λ z. All (λ r. p r ≡ false → All (Diff r) z) (x ∷ l)) (sym e)
    (λ f. false_true (sym f ∙ t), all_with (Diff x) _ _ (λ r d k f. (diff_sym x r d, k f)) l h.0 i))
    (λ t. let e : filter p (x ∷ l) ≡ filter p l = rw t in
    subst (λ z. All (λ r. p r ≡ false → All (Diff r) z) (x ∷ l)) (sym e)
    (λ f. sub_all (Diff x) (filter_sub p l) h.0, i))

mined_place : (s : ℕ) (b : Bool) → eqb s mined ≡ true → place_right? s b ≡ true → place_right? mined b ≡ true
mined_place s true n e = refl
mined_place s false n e = false_true (rw n at e)

tomb_mark : (s : ℕ) (h : Bool) (m : ℕ) → mark_right? s h m ≡ true → mark_right? mined false m ≡ true
tomb_mark s h m b = or_true (eqb m 0) _ b
    (λ u. rw u)
    (λ _ u. marked m false (and_true (eqb m 3 || (eqb m 4 || eqb m 5)) (eqb s mined && not h) u).0 refl)

released_right : (K c d k : ℕ) (r : Rec) → mined? r ≡ true → 1 ≤ k → k ≤ d → Right K c r → Right K d (finished mined 0 k r)
unfolding finished
released_right K c d k r t a b h = record {
  held = refl;
  reason = refl;
  place = mined_place r.state (is_some r.place) t h.place;
  mark = tomb_mark r.state (holder? r) r.mark h.mark;
  caller = h.caller;
  finish = in_range_law d k a b;
  label = h.label;
  ins = omega arith;
  outs = omega arith;
  reads = omega arith;
  size = refl;
}

abbrev mined_holder? : Rec → Bool
mined_holder? r = mined? r && holder? r

-- records n of which have right numbers, and those that the walk releases
module _ (c : Reconciling) (m : Limits) (n : ℕ) (l : List Rec) (right : All (Right m.K n) l) (rising : Pairwise Before l) where
  abbrev ids : List Id
  ids = released c m l

  abbrev rel : Rec → Rec
  rel r = release_one n ids r

  -- only Mined holders are released
  pub released_mined : All (λ r. eqb (place_in r.id ids) 0 ≡ false → mined_holder? r ≡ true) l
  unfolding released
  released_mined = all_map l (λ r k e. cases (mined_holder? r)
      (λ t. t)
      (λ t. let z = walk_other m c.height c.window r.id 0 0 (sort newer? (filter mined_holder? l)) (sort_all newer? (Diff r) (filter mined_holder? l) (k t)) in
      false_true (sym e ∙ eq-eqb _ 0 z)))
      (filter_differs mined_holder? l (rising_diff l rising))

  place_low : (i : Id) → eqb (place_in i ids) 0 ≡ false → 1 ≤ place_in i ids
  place_low i e = let z = eqb-false (place_in i ids) 0 e in omega arith

  rel_id : (r : Rec) → (rel r).id ≡ r.id
  unfolding finished
  rel_id r = cases (eqb (place_in r.id ids) 0) (λ t. rw t) (λ t. rw t)

  rel_less : (w : Option Held → ℕ) → w none ≡ 0 → total (λ r. w r.body) (map rel l) ≤ total (λ r. w r.body) l
  unfolding finished
  rel_less w z = map_total_le (λ r. Unit {0}) (λ r. w r.body) (λ r. w r.body) rel
      (λ r _. cases (eqb (place_in r.id ids) 0) (λ t. rw t (omega arith)) (λ t. rw (t, z) (omega arith))) l (all_every _ (λ r. tt) l)

  -- a weight of Mined records, after the release
  rel_mined : (w : Option Held → ℕ) → w none ≡ 0
      → total (λ r. cond (mined? r) (w r.body) 0) (map rel l) ≡ total (unlisted ids (λ r. w r.body)) (sort newer? (filter mined_holder? l))
  unfolding finished
  rel_mined w z =
      let f : Rec → ℕ = λ r. cond (mined? r) (w r.body) 0 in
      let g : Rec → ℕ = λ r. w r.body in
      let a = map_total (λ r. Unit {0}) f (unlisted ids f) rel (λ r _. cases (eqb (place_in r.id ids) 0) (λ t. rw t) (λ t. rw t z)) l (all_every _ (λ r. tt) l) in
      let b = total_eq (unlisted ids f) (λ r. cond (mined_holder? r) (unlisted ids g r) 0) (λ r. step (mined? r) (eqb (place_in r.id ids) 0) r.body) l in
      let d = filter_total mined_holder? (unlisted ids g) l in
      let e = sort_total newer? (unlisted ids g) (filter mined_holder? l) in
      omega arith
    where
      step : (x y : Bool) (o : Option Held) → cond y (cond x (w o) 0) 0 ≡ cond (x && is_some o) (cond y (w o) 0) 0
      step true true none = z
      step true false none = refl
      step true y (some h) = refl
      step false true o = refl
      step false false o = refl

  walked_diff : Pairwise Diff (sort newer? (filter mined_holder? l))
  walked_diff = sort_apart newer? Diff diff_sym (filter mined_holder? l) (sub_pairwise Diff (filter_sub mined_holder? l) (rising_diff l rising))

  rel_distinct : (a b : Rec) → Right m.K n a → Right m.K n b → Before a b × Distinct a b → Distinct (rel a) (rel b)
  unfolding finished
  rel_distinct a b x y k = cases (eqb (place_in a.id ids) 0)
      (λ t. cases (eqb (place_in b.id ids) 0)
      (λ u. rw (t, u) k.1)
      (λ u. let p = place_low b.id u in rw (t, u) (λ h _ e. let z = finish_le n (holder? a) a.finish x.finish h in omega arith)))
      (λ t. let p = place_low a.id t in cases (eqb (place_in b.id ids) 0)
      (λ u. rw (t, u) (λ _ h e. let z = finish_le n (holder? b) b.finish y.finish h in omega arith))
      (λ u. rw (t, u) (λ _ _ e. let w : place_in a.id ids ≡ place_in b.id ids = omega arith in
      let i = one_place (place_in a.id ids) refl p (sym w) in
      let s = below_not_same a.id b.id k.0 in
      let v : same? a.id b.id ≡ true = rw (← i) (same_self a.id) in
      false_true (sym s ∙ v))))
    where
      one_place : (d : ℕ) → place_in a.id ids ≡ d → 1 ≤ d → place_in b.id ids ≡ d → a.id ≡ b.id
      one_place zero e p e' = absurd (omega arith)
      one_place (suc d) e p e' = place_inj a.id b.id ids d e e'

  pub release_core : InRange m → holders l ≤ 2 * m.P → holder_bytes l ≤ 2 * m.B → Pairwise Distinct l → Pairwise Apart l → Core m (n + length ids) (map rel l)
  unfolding finished released
  release_core range few_holders few_bytes distinct apart = record {
    range = range;
    few_holders = let a = rel_less (λ b. one (is_some b)) refl in omega arith;
    few_bytes = let a = rel_less (λ b. length (content b)) refl in omega arith;
    few_mined =
        let a = rel_mined (λ b. one (is_some b)) refl in
        let b = mined_weight (map rel l) in
        let d = walk_few m c.height c.window 0 0 (sort newer? (filter mined_holder? l)) walked_diff in
        omega arith;
    few_mined_bytes =
        let a = rel_mined (λ b. length (content b)) refl in
        let d = walk_light m c.height c.window 0 0 (sort newer? (filter mined_holder? l)) walked_diff in
        omega arith;
    right = map_all (λ r. (eqb (place_in r.id ids) 0 ≡ false → mined_holder? r ≡ true) × Right m.K n r) (Right m.K (n + length ids)) rel
        (λ r x. cases (eqb (place_in r.id ids) 0)
        (λ t. rw t (right_later m.K n (n + length ids) r (omega arith) x.1))
        (λ t. let a = place_low r.id t in let b = place_le r.id ids in
        rw t (released_right m.K n (n + length ids) (n + place_in r.id ids) r (and_true (mined? r) (holder? r) (x.0 t)).0 (omega arith) (omega arith) x.1)))
        l (all_with _ _ _ (λ r a b. (a, b)) l released_mined right);
    rising = map_pairwise (Right m.K n) Before Before rel (λ a b _ _ k. rw (rel_id a, rel_id b) k) l right rising;
    distinct = map_pairwise (Right m.K n) (λ a b. Before a b × Distinct a b) Distinct rel rel_distinct l right (both_pairwise Before Distinct l rising distinct);
    apart = map_pairwise (Right m.K n) Apart Apart rel (λ a b _ _ k. cases (eqb (place_in a.id ids) 0)
        (λ t. cases (eqb (place_in b.id ids) 0) (λ u. rw (t, u) k) (λ u. rw (t, u) (finished_apart mined 0 n a b)))
        (λ t. rw t (apart_finished mined 0 n a (rel b)))) l right apart;
  }

-- ---- the call

-- "then, if any was released, T applies"
trimmed_sound : (m : Limits) (n : ℕ) (l : List Rec) (ids : List Id) → Core m (n + length ids) (map (release_one n ids) l) → tombstones l ≤ m.T
    → Sound m (n + length ids) (trimmed m.T ids (map (release_one n ids) l))
trimmed_sound m n l [] h t =
    let e = map_total (λ r. Unit {0}) (λ r. one (not (holder? r))) (λ r. one (not (holder? r))) (release_one n []) (λ r _. refl) l (all_every _ (λ r. tt) l) in
    core_sound m (n + 0) (map (release_one n []) l) h (omega arith)
trimmed_sound m n l (i ∷ ids) h t = forget_sound m (n + length (i ∷ ids)) (map (release_one n (i ∷ ids)) l) h

trimmed_fields : (t : ℕ) (ids : List Id) (l : List Rec) → All Fields l → All Fields (trimmed t ids l)
trimmed_fields t [] l h = h
trimmed_fields t (i ∷ ids) l h = sub_all Fields (forget_sub t l) h

module _ (c : Reconciling) (q : Queue) (f : Fit q) (o : Reconcilable c) (own : List Id) where
  abbrev now : List Rec
  now = map (touched c own o.applied) q.recs

  now_right : All (Right q.limits.K q.counter) now
  now_right = map_all _ _ (touched c own o.applied) (touched_right c own o.applied q.limits.K q.counter) q.recs f.sound.right

  now_rising : Pairwise Before now
  now_rising = alike_rising (touched c own o.applied) (touched_alike c own o.applied) q.recs f.sound.rising

  now_total : (w : Option Held → ℕ) → total (λ r. w r.body) now ≡ total (λ r. w r.body) q.recs
  now_total w = alike_total (touched c own o.applied) (touched_alike c own o.applied) q.recs w

  now_core : Core q.limits (q.counter + length (released c q.limits now)) (map (release_one q.counter (released c q.limits now)) now)
  now_core =
      let s = f.sound in
      release_core c q.limits q.counter now now_right now_rising s.range
      (let a = now_total (λ b. one (is_some b)) in let b = s.few_holders in omega arith)
      (let a = now_total (λ b. length (content b)) in let b = s.few_bytes in omega arith)
      (alike_distinct (touched c own o.applied) (touched_alike c own o.applied) q.recs s.distinct)
      (alike_apart (touched c own o.applied) (touched_alike c own o.applied) q.recs s.apart)

  now_fields : (ids : List Id) → q.counter + length ids ≤ top → All Fields (map (release_one q.counter ids) now)
  now_fields ids room = map_all Fields Fields (release_one q.counter ids)
      (λ r h. cases (eqb (place_in r.id ids) 0)
      (λ t. rw t h)
      (λ t. let a = place_le r.id ids in rw t (finished_fields mined 0 (q.counter + place_in r.id ids) r (omega arith) (omega arith) (omega arith) h)))
      now (map_all Fields Fields (touched c own o.applied) (touched_fields c own o.applied) q.recs f.recs)

  to_leaves : (changed : Bool) (ids : List Id) → released c q.limits now ≡ ids → Leaves q (reconcile_to c q changed now ids)
  unfolding moved opt_c
  to_leaves changed ids e = cases (ltb top (q.counter + length ids))
      (λ t. rw t tt)
      (λ t. let room = ltb-false top (q.counter + length ids) t in cases (changed || not (is_empty? ids))
      (λ u. rw (t, u) (committed_kept c.height (some c.tip) (q.counter + length ids) _ q f o.height o.tip (omega arith)
      (trimmed_sound q.limits q.counter now ids (rw e at now_core) (let a = now_total (λ b. one (not (is_some b))) in let b = f.sound.few_tombs in omega arith))
      (trimmed_fields q.limits.T ids _ (now_fields ids room))))
      (λ u. cases (leb (min (q.persisted + 32) top_height) c.height)
      (λ v. rw (t, u, v) (record { fit = moved_fit c.height c.height (some c.tip) q o.height o.height o.tip f; limits = refl; level = refl }))
      (λ v. rw (t, u, v) (record { fit = moved_fit q.persisted c.height (some c.tip) q f.persisted o.height o.tip f; limits = refl; level = refl }))))

pub reconcile_leaves : (c : Reconciling) (q : Queue) → Fit q → Reconcilable c → Leaves q (reconcile c q)
unfolding reconcile released to_release touched_recs
reconcile_leaves c q f o = to_leaves c q f o (own_of c q) (any? (λ r. is_some (touch c (own_of c q) r)) q.recs) _ refl

-- ---- the answer

pub releases_all : (P : Id → Type 0) (m : Limits) (height window n b : ℕ) (l : List Rec) → All (λ r. P r.id) l → All P (releases m height window n b l) × (length (releases m height window n b l) ≤ length l)
unfolding releases
releases_all P m height window n b [] h = (tt, omega arith)
releases_all P m height window n b (r ∷ l) h =
    let i = releases_all P m height window (n + 1) (b + length (content r.body)) l h.1 in
    let j = i.1 in
    cases (release? m height window n b r) (λ t. rw t ((h.0, i.0), omega arith)) (λ t. rw t (i.0, omega arith))

pub released_all : (P : Id → Type 0) (c : Reconciling) (m : Limits) (l : List Rec) → All (λ r. P r.id) l → All P (released c m l) × (length (released c m l) ≤ length l)
unfolding released
released_all P c m l h =
    let s = sort newer? (filter mined_holder? l) in
    let u = filter_sub mined_holder? l in
    let i = releases_all P m c.height c.window 0 0 s (sort_all newer? (λ r. P r.id) (filter mined_holder? l) (sub_all (λ r. P r.id) u h)) in
    let a = length_total s in
    let b = sort_total newer? (λ r. 1) (filter mined_holder? l) in
    let d = sub_total (λ r. 1) u in
    let e = length_total l in
    let j = i.1 in
    (i.0, omega arith)

-- ---- the cursor stays near the persisted height

-- a cursor that only memory has is less than 32 above the persisted height
abbrev pub CursorNear : {A : Type 0} → Out A → Type 0
CursorNear (refused n) = Unit {0}
CursorNear (done Nothing q a) = Unit {0}
CursorNear (done Memory q a) = q.cursor < q.persisted + 32
CursorNear (done Whole q a) = Unit {0}
CursorNear (done Cursor q a) = Unit {0}

pub reconcile_near : (c : Reconciling) (q : Queue) → CursorNear (reconcile c q)
unfolding reconcile moved
reconcile_near c q = go (any? (λ r. is_some (touch c (own_of c q) r)) q.recs) (touched_recs c q) (to_release c q)
  where
    go : (changed : Bool) (l : List Rec) (ids : List Id) → CursorNear (reconcile_to c q changed l ids)
    go changed l ids = cases (ltb top (q.counter + length ids))
        (λ t. rw t tt)
        (λ t. cases (changed || not (is_empty? ids))
        (λ u. rw (t, u) tt)
        (λ u. cases (leb (min (q.persisted + 32) top_height) c.height)
        (λ v. rw (t, u, v) tt)
        (λ v. let z = leb-false (min (q.persisted + 32) top_height) c.height v in rw (t, u, v) (omega arith))))

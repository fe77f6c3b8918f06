-- Rows for what records want, in slots and in a table, and the bits that come of them. Assumes nothing.
use Rattle.std.specs.Prelude.{◌≡◌, refl, Bool, true, false, not, ◌&&◌, ◌||◌, List, [], ◌∷◌, ◌++◌, ℕ, zero, suc, ◌+◌, ◌-◌, ◌/◌, ◌%◌, ◌≤◌, ◌<◌, ltb, leb, eqb, length, drop, take, get_or, set, replicate}
use Rattle.std.proofs.Common.{ap, sym, ◌∙◌, arith, le_of_suc-le-suc, add-one, mod-lt, length-set, length-take, drop-drop, drop-set-lt, get_or-set_same, get_or-set_other, take-suc, take-suc-set, take_all, get_or-take, eqb-true, ltb-true, ltb-false, lt-ltb, le-ltb, leb-true, le-leb}
use Rattle.std.specs.Int.Bits.{bit_or}
use Rattle.std.proofs.lemmas.Bool.{eqb-false, lt-leb, not-true, not-false}
use Rattle.queue.specs.Basics.{among_append, any_append, or_assoc, or_same, join_same, and_or, and_off, or_and, any_at, any_same}
use Rattle.queue.specs.Codec.{All, cases}
use Rattle.queue.specs.bytes.Parts.{part}
use Rattle.queue.specs.Lists.{and_true, and_both}
use Rattle.queue.specs.bytes.OrderLaws.{same_is}
use Rattle.queue.specs.layout.FrameCodec.{id_c, rec_c}
use Rattle.queue.specs.bytes.ViewAs.{view, view_fits}
use Rattle.queue.specs.bytes.ReaderAs.{Found, whole, list_at, reads?}
use Rattle.queue.specs.bytes.ReaderLaws.{none_left, false_true}
use Rattle.queue.specs.layout.FrameAs.{facts_of, SeenAs}
use Rattle.queue.specs.check.FilterAs.{slot_l, marked, mark_l, hash_all_value}
use Rattle.queue.specs.check.SuspectsAs.{id_r, no_r, up_to, later, Shuffled, InOrder, Cut}
use Rattle.queue.specs.read.FeesAs.{Known}
use Rattle.queue.specs.paper.Records.{Bytes, Id, Rec}
use Rattle.queue.specs.paper.Ids.{cmp_l, same?}
use Rattle.queue.specs.paper.Lists.{any?, all?}
use Rattle.queue.specs.paper.Sound.{inputs, outputs, reads, wanted, among?}
use Rattle.queue.specs.read.LinksAs.{group_mask_value, names, OutsIs, OutsTo, Again, Thinner, Thinned, wants_at, outs_at, Short, Joined, hit, in_line, Zero, Cleared, Slotted, RowsHold, Rowed, Linked, outputs_linked, Begins}
use Rattle.queue.specs.declared.layout.frame.Seen.{Seen}
use Rattle.queue.proofs.layout.TurnLaws.{Scan, start, here, on, FoundRec}
use Rattle.queue.proofs.check.FilterLaws.{mark_size, mark_here, mark_old, slot_in}
use Rattle.queue.proofs.check.SuspectsRowLaws.{id_long, any_none, any_some, later_no, later_yes, later_behind, rising}
use Rattle.queue.proofs.check.SuspectsLaws.{id_bytes, all_at, all_append, shuffled_all, shuffled_any}
use Rattle.queue.proofs.read.FeesLaws.{the_turn, rec_is, known_at, stands_at}
use Rattle.queue.proofs.read.LinksBitLaws.{or_no, spread, joined_none, joined_to, joined_then}
use Rattle.queue.proofs.read.LinksNameLaws.{mask_pos, names_mask, names_none, names_or, join_number, join_place}

-- ---- zeros
zero_at : (n j : ℕ) → ◌≡◌ {A = ℕ} (get_or (replicate n 0) j 0) 0
zero_at zero j = refl
zero_at (suc n) zero = refl
zero_at (suc n) (suc j) = zero_at n j

pub zeros : {v : List ℕ} (n : ℕ) → v ≡ replicate n 0 → Zero v
zeros {v} n e = rw e (record { all = zero_at n })

pub cleared : {go : Bool} {v v' : List ℕ} → not go ≡ false → Zero v' → Cleared go v v'
cleared {go} t z = record { yes = λ _. z; no = λ e. false_true (sym e ∙ not-false go t) }

pub untouched : {go : Bool} {v : List ℕ} → not go ≡ true → Cleared go v v
untouched {go} t = record { yes = λ e. false_true (sym (not-true go t) ∙ e); no = λ _. refl }

-- cleared, or the first time
pub zero_now : (a : ℕ) {v v' : List ℕ} → Cleared (ltb 0 a) v v' → (a ≡ 0 → Zero v) → Zero v'
zero_now a c f = cases (ltb 0 a)
    (λ t. c.yes t)
    (λ t. let k = ltb-false 0 a t in rw (c.no t) (f (let z : a ≡ 0 = omega arith in z)))

-- ---- a row with the number 0 is none
hit_none : (s : Bytes) (j : ℕ) (z : Id) → hit s j z 0 ≡ false
unfolding hit later no_r
hit_none s j z = cases (same? z (id_r false s 0)) (λ t. rw t) (λ t. rw t)

pub meets_none : (s : Bytes) (y x : ℕ) → x % 4294967296 ≡ 0 → false ≡ later false s (id_r false s y) 0 x
unfolding later no_r
meets_none s y x e = cases (same? (id_r false s y) (id_r false s x)) (λ t. rw (t, e)) (λ t. rw t)

pub meets_is : (s : Bytes) (y x : ℕ) {a : Bool} → (x % 4294967296 ≡ 0 → ⊥) → a ≡ same? (id_r false s y) (id_r false s x) → a ≡ later false s (id_r false s y) 0 x
unfolding later no_r
meets_is s y x n e = rw (e, lt-ltb 0 (x % 4294967296) (pos (x % 4294967296) n)) (yes (same? (id_r false s y) (id_r false s x)))
  where
    pos : (m : ℕ) → (m ≡ 0 → ⊥) → 0 < m
    pos zero n = absurd (n refl)
    pos (suc m) n = omega arith

    yes : (a : Bool) → a ≡ (a && true)
    yes true = refl
    yes false = refl

pub meets_same : (s : Bytes) (y x : ℕ) {n m : ℕ} {a b : Id} {r : Bool} → (x % 4294967296 ≡ 0 → ⊥) → n ≡ length (view false s (y / 4294967296)) → m ≡ length (view false s (x / 4294967296)) → 32 ≤ n → 32 ≤ m
    → a ≡ part 32 (view false s (y / 4294967296)) 0 → b ≡ part 32 (view false s (x / 4294967296)) 0 → r ≡ same? a b → r ≡ later false s (id_r false s y) 0 x
meets_same s y x n e f h k p q r =
    r ∙ rw (p ∙ sym (id_long false s y (omega arith)), q ∙ sym (id_long false s x (omega arith))) (meets_is s y x n refl)

-- what a row of record j with the id y says
row_says : (s : Bytes) (w j : ℕ) (y : Id) → id_r false s w ≡ y → no_r w ≡ group_mask_value j → (i : ℕ) (z : Id) → hit s i z w ≡ (eqb i j && same? z y)
unfolding hit later
row_says s w j y e n i z = rw (e, n, lt-ltb 0 (group_mask_value j) (mask_pos j), names_mask j i) (swap (same? z y) (eqb i j))
  where
    swap : (a b : Bool) → ((a && true) && b) ≡ (b && a)
    swap true true = refl
    swap true false = refl
    swap false true = refl
    swap false false = refl

hit_id : (s : Bytes) (j : ℕ) (z : Id) (x : ℕ) → hit s j z x ≡ true → (z ≡ id_r false s x) × (0 < no_r x)
unfolding hit later
hit_id s j z x e =
    let a = and_true (same? z (id_r false s x) && ltb 0 (no_r x)) (names (no_r x) j) e in
    let b = and_true (same? z (id_r false s x)) (ltb 0 (no_r x)) a.0 in
    (same_is z (id_r false s x) b.0, ltb-true 0 (no_r x) b.1)

hit_is : (s : Bytes) (j : ℕ) (z : Id) (x : ℕ) → hit s j z x ≡ (same? z (id_r false s x) && names (no_r x) j)
unfolding hit later
hit_is s j z x = cases (ltb 0 (no_r x))
    (λ t. rw t (yes (same? z (id_r false s x)) (names (no_r x) j)))
    (λ t. let e = ltb-false 0 (no_r x) t in rw (t, ap (λ (n : ℕ). names n j) (let o : no_r x ≡ 0 = omega arith in o) ∙ names_none j) (no (same? z (id_r false s x))))
  where
    yes : (a b : Bool) → ((a && true) && b) ≡ (a && b)
    yes true b = refl
    yes false b = refl

    no : (a : Bool) → ((a && false) && false) ≡ (a && false)
    no true = refl
    no false = refl

no_small : (x : ℕ) → no_r x < 4294967296
unfolding no_r
no_small x = mod-lt x (omega arith)

hit_later : (s : Bytes) (j : ℕ) (z : Id) (x : ℕ) → later false s z 0 x ≡ false → hit s j z x ≡ false
unfolding hit
hit_later s j z x e = rw e

-- ---- any, all
any_set : (p : ℕ → Bool) (v : List ℕ) (i x : ℕ) → i < length v → p (get_or v i 0) ≡ false → any? p (set v i x) ≡ (any? p v || p x)
any_set p [] i x h e = absurd (let z : ⊥ = omega arith in z)
any_set p (a ∷ v) zero x h e = rw e (swap (p x) (any? p v))
  where
    swap : (a b : Bool) → (a || b) ≡ (b || a)
    swap true true = refl
    swap true false = refl
    swap false true = refl
    swap false false = refl
any_set p (a ∷ v) (suc i) x h e = cases (p a) (λ t. rw t) (λ t. rw t (any_set p v i x (le_of_suc-le-suc h) e))

all_mono : (p q : ℕ → Bool) → ((x : ℕ) → p x ≡ true → q x ≡ true) → (l : List ℕ) → all? p l ≡ true → all? q l ≡ true
all_mono p q f [] e = refl
all_mono p q f (x ∷ l) e = let u = and_true (p x) (all? p l) e in and_both (q x) (all? q l) (f x u.0) (all_mono p q f l u.1)

module _ {A : Type 0} where
  any_either : (p q : A → Bool) (l : List A) → (any? p l || any? q l) ≡ any? (λ x. p x || q x) l
  any_either p q [] = refl
  any_either p q (x ∷ l) = mix (p x) (q x) (any? p l) (any? q l) ∙ ap (λ (b : Bool). (p x || q x) || b) (any_either p q l)
    where
      mix : (a b c d : Bool) → ((a || c) || (b || d)) ≡ ((a || b) || (c || d))
      mix true b c d = refl
      mix false true true d = refl
      mix false true false d = refl
      mix false false c d = refl

-- ---- tables that say who wants what
module _ {s : Bytes} {slots t rows : List ℕ} where
  pub held_to : {own own' : ℕ → Id → Bool} → ((j : ℕ) (z : Id) → own j z ≡ own' j z) → RowsHold s slots t rows own → RowsHold s slots t rows own'
  held_to f x = record { has = λ j z. x.has j z ∙ f j z; placed = x.placed; noted = x.noted }

  pub held_order : {own : ℕ → Id → Bool} {rows' : List ℕ} → Shuffled rows rows' → RowsHold s slots t rows own → RowsHold s slots t rows' own
  held_order k x = record {
    has = λ j z. ap (λ (b : Bool). any? (hit s j z) slots || b) (shuffled_any (hit s j z) k) ∙ x.has j z;
    placed = x.placed;
    noted = shuffled_all (λ x. marked t (hash_all_value (id_r false s x))) k ∙ x.noted;
  }

  pub held_start : Zero slots → rows ≡ [] → RowsHold s slots t rows (λ j z. false)
  unfolding no_r
  held_start h e = record {
    has = λ j z. rw (e, any_none (hit s j z) slots (λ i _. rw (h.all i) (hit_none s j z)));
    placed = λ i _ p. absurd (let q : no_r (get_or slots i 0) ≡ 0 = rw (h.all i) no_zero in let z : ⊥ = omega arith in z);
    noted = rw e;
  }
    where
      no_zero : no_r 0 ≡ 0
      no_zero = refl

-- a row more
module _ (s : Bytes) (slots t v : List ℕ) (h w k : ℕ) (e : h ≡ hash_all_value (id_r false s w)) (c : k < length v) {r : ℕ} {slots' t' v' : List ℕ} (g : Slotted h w k slots t v r slots' t' v') where
  abbrev place : ℕ
  place = slot_l (length slots) h

  in_slot : {own : ℕ → Id → Bool} → get_or slots place 0 ≡ 0 → RowsHold s slots t (take k v) own → RowsHold s slots' t' (take r v') (λ j z. own j z || hit s j z w)
  in_slot {own} f x =
      let u = g.free f in
      let l : length slots' ≡ length slots = ap length u.1 ∙ length-set slots place w in
      rw (u.0, u.2, u.3) (record {
        has = λ j z. ap (λ (q : List ℕ). any? (hit s j z) q || any? (hit s j z) (take k v)) u.1
            ∙ ap (λ (q : Bool). q || any? (hit s j z) (take k v)) (any_set (hit s j z) slots place w (slot_in (length slots) h g.some) (rw f (hit_none s j z)))
            ∙ mix (any? (hit s j z) slots) (hit s j z w) (any? (hit s j z) (take k v)) ∙ ap (λ (q : Bool). q || hit s j z w) (x.has j z);
        placed = λ i p q. rw l (own_place i (omega (arith, l)) (rw u.1 at q) ∙ refl);
        noted = x.noted;
      })
    where
      mix : (a b c : Bool) → ((a || b) || c) ≡ ((a || c) || b)
      mix true b c = refl
      mix false true true = refl
      mix false true false = refl
      mix false false true = refl
      mix false false false = refl

      own_place : (i : ℕ) → i < length slots → 0 < no_r (get_or (set slots place w) i 0) → slot_l (length slots) (hash_all_value (id_r false s (get_or slots' i 0))) ≡ i
      own_place i p q = rw (g.free f).1 (cases (eqb i place)
          (λ n. let o = eqb-true i place n in rw (o, get_or-set_same slots place w 0 (slot_in (length slots) h g.some)) (ap (slot_l (length slots)) (sym e)))
          (λ n. let o = get_or-set_other slots place i w 0 (eqb-false i place n) in rw o (x.placed i p (rw o at q))))

  behind : {own : ℕ → Id → Bool} → (get_or slots place 0 ≡ 0 → ⊥) → RowsHold s slots t (take k v) own → RowsHold s slots' t' (take r v') (λ j z. own j z || hit s j z w)
  behind {own} f x =
      let u = g.taken f in
      let d : take r v' ≡ take k v ++ (w ∷ []) = rw (u.0, u.3, add-one) (take-suc-set v k w c) in
      let P : ℕ → Bool = λ x. marked (mark_l t h) (hash_all_value (id_r false s x)) in
      let m : marked (mark_l t h) (hash_all_value (id_r false s w)) ≡ true = rw (← e) (mark_here t h u.4) in
      let last : all? P (w ∷ []) ≡ true = and_both (P w) true m refl in
      rw (u.1, u.2, d) (record {
        has = λ j z. ap (λ (q : Bool). any? (hit s j z) slots || q) (any_append (hit s j z) (take k v) (w ∷ []))
            ∙ mix (any? (hit s j z) slots) (any? (hit s j z) (take k v)) (hit s j z w) ∙ ap (λ (q : Bool). q || hit s j z w) (x.has j z);
        placed = x.placed;
        noted = all_append P (take k v) (w ∷ []) ∙ and_both (all? P (take k v)) (all? P (w ∷ [])) (all_mono (λ x. marked t (hash_all_value (id_r false s x))) P (λ x q. mark_old t h u.4 (hash_all_value (id_r false s x)) q) (take k v) x.noted) last;
      })
    where
      mix : (a b c : Bool) → (a || (b || (c || false))) ≡ ((a || b) || c)
      mix true b c = refl
      mix false true c = refl
      mix false false true = refl
      mix false false false = refl

  pub held_more : {own : ℕ → Id → Bool} → RowsHold s slots t (take k v) own → RowsHold s slots' t' (take r v') (λ j z. own j z || hit s j z w)
  held_more x = cases (eqb (get_or slots place 0) 0) (λ t. in_slot (eqb-true _ 0 t) x) (λ t. behind (eqb-false _ 0 t) x)

pub kept_sizes : (slots t v : List ℕ) (h w k : ℕ) {r : ℕ} {slots' t' v' : List ℕ} → Slotted h w k slots t v r slots' t' v' → (length slots' ≡ length slots) × (length t' ≡ length t) × (r ≤ k + 1) × (length v' ≡ length v)
kept_sizes slots t v h w k g = let place = slot_l (length slots) h in cases (eqb (get_or slots place 0) 0)
    (λ n. let u = g.free (eqb-true _ 0 n) in (ap length u.1 ∙ length-set slots place w, ap length u.2, (let q = u.0 in omega arith), ap length u.3))
    (λ n. let u = g.taken (eqb-false _ 0 n) in (ap length u.1, ap length u.2 ∙ mark_size t h, (let q = u.0 in omega arith), ap length u.3 ∙ length-set v k w))

pub kept_free : {h w k x : ℕ} (slots : List ℕ) {slots' t v : List ℕ} → x ≡ get_or slots (slot_l (length slots) h) 0 → 0 < length slots → x ≡ 0 → slots' ≡ set slots (slot_l (length slots) h) w → Slotted h w k slots t v k slots' t v
kept_free slots q a e f = record { some = a; free = λ _. (refl, f, refl, refl); taken = λ n. absurd (n (sym q ∙ e)) }

pub kept_taken : {h w k x : ℕ} (slots : List ℕ) {t t' v : List ℕ} → x ≡ get_or slots (slot_l (length slots) h) 0 → 0 < length slots → (x ≡ 0 → ⊥) → t' ≡ mark_l t h → 0 < length t → Slotted h w k slots t v (k + 1) slots t' (set v k w)
kept_taken slots q a n f p = record { some = a; free = λ e. absurd (n (q ∙ e)); taken = λ _. (refl, refl, f, refl, p) }

-- ---- rows for the ids of a record: those before i are there
pub record Rowing (s : Bytes) (j : ℕ) (b : Bytes) (c at : ℕ) (slots₀ t₀ rows₀ : List ℕ) (i left : ℕ) (slots t rows : List ℕ) : Type 0 where
  pub scan : Scan id_c (λ (u : Unit {0}) (x : List Id). u) b c at tt i left tt
  pub done : Id → Bool
  pub split : (z : Id) → among? z (list_at id_c c b at) ≡ (done z || among? z (list_at id_c left b i))
  pub sizes : (length slots ≡ length slots₀) × (length t ≡ length t₀)
  pub by : (own : ℕ → Id → Bool) → RowsHold s slots₀ t₀ rows₀ own → RowsHold s slots t rows (λ i z. own i z || (eqb i j && done z))

and_no : (a : Bool) → (a && false) ≡ false
and_no true = refl
and_no false = refl

pub rowing : (s : Bytes) (j : ℕ) (b : Bytes) (c at : ℕ) (slots t rows : List ℕ) → at ≤ length b → whole id_c c b at ≡ true → Rowing s j b c at slots t rows at c slots t rows
rowing s j b c at slots t rows h w = record {
  scan = start id_c _ b c at tt h w;
  done = λ z. false;
  split = λ z. refl;
  sizes = (refl, refl);
  by = λ own x. held_to (λ i z. sym (or_no (own i z)) ∙ ap (λ (q : Bool). own i z || q) (sym (and_no (eqb i j)))) x;
}

module _ {s : Bytes} {j : ℕ} {b : Bytes} {c at : ℕ} {slots₀ t₀ rows₀ : List ℕ} {i left : ℕ} {slots t : List ℕ} (v : List ℕ) (k : ℕ) (x : Rowing s j b c at slots₀ t₀ rows₀ i left slots t (take k v)) where
  pub rowing_go : {next : ℕ} {y : Id} {h : ℕ} (w : ℕ) {r : ℕ} {slots' t' v' : List ℕ} → 0 < left → Found id_c b i next (λ a. a ≡ y) → h ≡ hash_all_value y → id_r false s w ≡ part 32 b i → no_r w ≡ group_mask_value j
      → k < length v → Slotted h w k slots t v r slots' t' v' → Rowing s j b c at slots₀ t₀ rows₀ next (left - 1) slots' t' (take r v')
  rowing_go {next} {y} {h} w {r} {slots'} {t'} {v'} p rd e f n l g =
      let u = here x.scan p rd in
      let q : id_r false s w ≡ y = f ∙ (id_bytes u).0 in
      let m : h ≡ hash_all_value (id_r false s w) = e ∙ ap hash_all_value (sym q) in
      let z = kept_sizes slots t v h w k g in
      record {
        scan = on x.scan tt p u refl;
        done = λ o. x.done o || same? o y;
        split = λ o. x.split o ∙ ap (λ (k : List Id). x.done o || among? o k) u.list ∙ ap (λ (k : Id). x.done o || (same? o k || among? o (list_at id_c (left - 1) b next))) u.is ∙ sym (or_assoc (x.done o) (same? o y) (among? o (list_at id_c (left - 1) b next)));
        sizes = (z.0 ∙ x.sizes.0, z.1 ∙ x.sizes.1);
        by = λ own o. held_to (λ i z. ap (λ (q : Bool). (own i z || (eqb i j && x.done z)) || q) (row_says s w j y q n i z) ∙ or_and (own i z) (eqb i j) (x.done z) (same? z y)) (held_more s slots t v h w k m l g (x.by own o));
      }

  pub rowing_end : left ≡ 0 → Rowed s j (list_at id_c c b at) slots₀ t₀ rows₀ slots t (take k v)
  rowing_end e = record {
    sizes = x.sizes;
    by = λ own o. held_to (λ n z. ap (λ (q : Bool). own n z || (eqb n j && q)) (sym (or_no (x.done z)) ∙ sym (x.split z ∙ ap (λ (k : List Id). x.done z || among? z k) (none_left id_c b left i e).0))) (x.by own o);
  }

-- rows for two lists of ids
pub rowed_both : {s : Bytes} {j : ℕ} (a b : List Id) {slots t rows slots₁ t₁ rows₁ slots₂ t₂ rows₂ : List ℕ} → Rowed s j a slots t rows slots₁ t₁ rows₁ → Rowed s j b slots₁ t₁ rows₁ slots₂ t₂ rows₂ → Rowed s j (a ++ b) slots t rows slots₂ t₂ rows₂
rowed_both {s} {j} a b x y = record {
  sizes = (y.sizes.0 ∙ x.sizes.0, y.sizes.1 ∙ x.sizes.1);
  by = λ own o. held_to (λ i z. or_and (own i z) (eqb i j) (among? z a) (among? z b) ∙ ap (λ (q : Bool). own i z || (eqb i j && q)) (sym (among_append z a b))) (y.by (λ i z. own i z || (eqb i j && among? z a)) (x.by own o));
}

-- ---- a record that stands at a place, as it was read
pub stands_known : (s : Bytes) (at : List ℕ) (i : ℕ) → All (Known s) at → i < length at → reads? rec_c (view false s (get_or at i 0)) 0 ≡ true
stands_known s at i all h = stands_at s (get_or at i 0) (known_at s at i all h).stands

module _ (s : Bytes) (at : List ℕ) (i : ℕ) {m : ℕ} {y : Seen} (all : All (Known s) at) (h : i < length at) (rd : FoundRec false s (get_or at i 0) m y) where
  abbrev stands : Known s (get_or at i 0)
  stands = known_at s at i all h

  abbrev its : SeenAs (view false s (get_or at i 0)) y (the_turn s (get_or at i 0) stands.stands rd).item
  its = (the_turn s (get_or at i 0) stands.stands rd).is.0

  pub ins_here : (y.at ≤ length (view false s (get_or at i 0))) × (whole id_c y.facts.ins (view false s (get_or at i 0)) y.at ≡ true)
  ins_here = (its.ins_in, its.ins_all)

  outs_are : list_at id_c y.facts.outs (view false s (get_or at i 0)) y.outs ≡ outs_at s at i
  outs_are = its.outs_list ∙ ap (λ (r : Rec). outputs r.body) (sym (rec_is s (get_or at i 0) stands.stands rd))

  pub outs_small : length s < 4294967296 → (y.outs < 4294967296) × (y.facts.outs < 4294967296)
  outs_small l = (omega (arith, its.outs_in, view_fits false s (get_or at i 0)), omega (arith, its.small.outs))

  pub outs_noted : {c : ℕ} → c / 4294967296 ≡ y.outs → c % 4294967296 ≡ y.facts.outs → OutsIs s (get_or at i 0) c
  outs_noted e f = record { within = rw e its.outs_in; all = rw (e, f) its.outs_all; list = rw (e, f) outs_are }

  pub reads_here : (y.reads ≤ length (view false s (get_or at i 0))) × (whole id_c y.facts.reads (view false s (get_or at i 0)) y.reads ≡ true)
  reads_here = (its.reads_in, its.reads_all)

  pub wants_are : list_at id_c y.facts.ins (view false s (get_or at i 0)) y.at ++ list_at id_c y.facts.reads (view false s (get_or at i 0)) y.reads ≡ wants_at s at i
  wants_are = join_same its.ins_list its.reads_list ∙ ap (λ (r : Rec). wanted r.body) (sym (rec_is s (get_or at i 0) stands.stands rd))

  pub wants_few : All (Short s) at → (y.facts.ins ≤ 128) × (y.facts.reads ≤ 128)
  unfolding facts_of
  wants_few short =
      let e : y.facts.ins ≡ length (inputs (the_turn s (get_or at i 0) stands.stands rd).item.body) = ap (λ f. f.ins) its.facts in
      let d : y.facts.reads ≡ length (reads (the_turn s (get_or at i 0) stands.stands rd).item.body) = ap (λ f. f.reads) its.facts in
      let q = all_get at i short h in
      let z = ap (λ (r : Rec). length (inputs r.body)) (rec_is s (get_or at i 0) stands.stands rd) in
      let u = ap (λ (r : Rec). length (reads r.body)) (rec_is s (get_or at i 0) stands.stands rd) in
      (omega (arith, q.0), omega (arith, q.1))
    where
      all_get : (l : List ℕ) (i : ℕ) → All (Short s) l → i < length l → Short s (get_or l i 0)
      all_get [] i a h = absurd (let z : ⊥ = omega arith in z)
      all_get (p ∷ l) zero a h = a.0
      all_get (p ∷ l) (suc i) a h = all_get l i a.1 (le_of_suc-le-suc h)

-- ---- where outputs stand
pub outs_start : (s : Bytes) (at outs : List ℕ) → OutsTo s at outs 0
outs_start s at outs = record { each = λ i h. absurd (let z : ⊥ = omega arith in z) }

pub outs_go : {s : Bytes} {at outs : List ℕ} {b c : ℕ} → OutsTo s at outs b → b < length outs → OutsIs s (get_or at b 0) c → OutsTo s at (set outs b c) (b + 1)
outs_go {s} {at} {outs} {b} {c} x l o = record {
  each = λ i h. cases (eqb i b)
      (λ t. let e = eqb-true i b t in rw (e, get_or-set_same outs b c 0 l) o)
      (λ t. let e = eqb-false i b t in rw (get_or-set_other outs b i c 0 e) (x.each i (under i b e h)));
}
  where
    under : (i b : ℕ) → (i ≡ b → ⊥) → i < b + 1 → i < b
    under i b e h = cases (ltb i b) (λ t. ltb-true i b t) (λ t. let k = ltb-false i b t in absurd (e (let z : i ≡ b = omega arith in z)))

pub outs_less : {s : Bytes} {at outs : List ℕ} (n m : ℕ) → n ≤ m → OutsTo s at outs m → OutsTo s at outs n
outs_less n m h x = record { each = λ i k. x.each i (omega arith) }

-- ---- rows for the records from a on
abbrev pub wanted_in : Bytes → List ℕ → ℕ → ℕ → ℕ → Id → Bool
wanted_in s at a b j z = (leb a j && ltb j b) && among? z (wants_at s at j)

pub records_start : (s : Bytes) (at : List ℕ) (a : ℕ) {slots t rows : List ℕ} → Zero slots → rows ≡ [] → RowsHold s slots t rows (wanted_in s at a a)
records_start s at a h e = held_to (λ j z. sym (none j (among? z (wants_at s at j)))) (held_start h e)
  where
    none : (j : ℕ) (b : Bool) → ((leb a j && ltb j a) && b) ≡ false
    none j b = cases (leb a j) (λ t. let k = leb-true a j t in rw (t, le-ltb j a k)) (λ t. rw t)

pub records_go : (s : Bytes) (at : List ℕ) (a b : ℕ) {ids : List Id} {slots t rows slots' t' rows' : List ℕ} → a ≤ b → ids ≡ wants_at s at b → RowsHold s slots t rows (wanted_in s at a b) → Rowed s b ids slots t rows slots' t' rows'
    → RowsHold s slots' t' rows' (wanted_in s at a (b + 1))
records_go s at a b {ids} h e x r = held_to (λ j z. both j z) (r.by (wanted_in s at a b) x)
  where
    both : (j : ℕ) (z : Id) → (wanted_in s at a b j z || (eqb j b && among? z ids)) ≡ wanted_in s at a (b + 1) j z
    both j z = cases (eqb j b)
        (λ t. let q = eqb-true j b t in
        let y : among? z ids ≡ among? z (wants_at s at j) = rw (e, q) in
        rw (t, y, le-leb a j (omega arith), le-ltb j b (omega arith), lt-ltb j (b + 1) (omega arith)))
        (λ t. let q = eqb-false j b t in
        rw (t, upto q) ((or_no ((leb a j && ltb j (b + 1)) && among? z (wants_at s at j)))))
      where
        upto : (j ≡ b → ⊥) → ltb j b ≡ ltb j (b + 1)
        upto q = cases (ltb j b)
            (λ t. let k = ltb-true j b t in t ∙ sym (lt-ltb j (b + 1) (omega arith)))
            (λ t. let k = ltb-false j b t in t ∙ sym (le-ltb j (b + 1) (let z : b + 1 ≤ j = omega (arith, apart j b q k) in z)))
          where
            apart : (j b : ℕ) → (j ≡ b → ⊥) → b ≤ j → b < j
            apart j b q k = cases (eqb j b) (λ u. absurd (q (eqb-true j b u))) (λ u. cases (ltb b j) (λ w. ltb-true b j w) (λ w. let o = ltb-false b j w in absurd (q (let z : j ≡ b = omega arith in z))))

-- there was room for one
pub grew : {a b : ℕ} (k n : ℕ) → a ≤ b → (b ≡ a → k ≡ 0) → 256 ≤ n → n - k < 256 → a < b
grew {a} {b} k n h f g l = cases (ltb a b)
    (λ t. ltb-true a b t)
    (λ t. let o = ltb-false a b t in let z = f (omega arith) in absurd (let y : ⊥ = omega arith in y))

-- ---- the rows of an id, from where they begin
-- those before k have their bits
pub record Running (s : Bytes) (v : List ℕ) (y w row : ℕ) (bits₀ : List ℕ) (k : ℕ) (bits : List ℕ) : Type 0 where
  pub within : k ≤ length v
  pub joined : Joined w bits₀ bits (λ i j. any? (hit s j (id_r false s y)) (take k v) && in_line row i j)

module _ (s : Bytes) (v : List ℕ) (y : ℕ) (ny : no_r y ≡ 0) where
  low_none : (x : ℕ) → up_to false s x y ≡ true → (j : ℕ) → hit s j (id_r false s y) x ≡ false
  low_none x h j = hit_later s j (id_r false s y) x (sym (ap (λ (m : ℕ). later false s (id_r false s y) m x) ny) ∙ later_no false s y x h)

  upto_none : {k : ℕ} → k ≤ length v → ((i : ℕ) → i < k → up_to false s (get_or v i 0) y ≡ true) → (j : ℕ) → any? (hit s j (id_r false s y)) (take k v) ≡ false
  upto_none {k} h f j = any_none (hit s j (id_r false s y)) (take k v) (λ i p.
      let q : i < k = omega (arith, length-take k v) in
      rw (get_or-take k v i 0 q) (low_none (get_or v i 0) (f i q) j))

  pub run_start : {ordered : Bool} {from : ℕ} (w row : ℕ) (bits : List ℕ) → Begins ordered s v y from → Running s v y w row bits from bits
  run_start {ordered} {from} w row bits b = cases ordered
      (λ t. let u = (b.yes t).1 in record { within = u.within; joined = joined_none (λ i j _. rw (upto_none u.within u.low j)) })
      (λ t. rw (b.no t) (record { within = omega arith; joined = joined_none (λ i j _. refl) }))

  -- behind a row of another id, in order, there is none
  module _ {ordered : Bool} {from : ℕ} (b : Begins ordered s v y from) {w row : ℕ} {bits₀ bits : List ℕ} {k : ℕ} (x : Running s v y w row bits₀ k bits) (up : from ≤ k) where
    pub run_stop : {found c : Bool} → k < length v → found ≡ later false s (id_r false s y) 0 (get_or v k 0) → c ≡ (ordered && not found) → c ≡ true
        → Joined w bits₀ bits (λ i j. any? (hit s j (id_r false s y)) v && in_line row i j)
    run_stop {found} {c} h e f t =
        let o = and_true ordered (not found) (sym f ∙ t) in
        let n : later false s (id_r false s y) 0 (get_or v k 0) ≡ false = sym e ∙ not-true found o.1 in
        let q = b.yes o.0 in
        let hi : up_to false s (get_or v k 0) y ≡ false = q.1.high k up h in
        let other : cmp_l (id_r false s y) (id_r false s (get_or v k 0)) ≡ 1 → ⊥ = λ z. false_true (sym n ∙ sym (ap (λ (m : ℕ). later false s (id_r false s y) m (get_or v k 0)) ny) ∙ later_yes false s y (get_or v k 0) hi z) in
        joined_to (λ i j. ap (λ (z : Bool). z && in_line row i j) (sym (all_there j (λ i p r.
        hit_later s j (id_r false s y) (get_or v i 0) (sym (ap (λ (m : ℕ). later false s (id_r false s y) m (get_or v i 0)) ny) ∙ later_behind false s y (get_or v k 0) (get_or v i 0) hi other (rising false s v q.0 k i p r)))))) x.joined
      where
        all_there : (j : ℕ) → ((i : ℕ) → k ≤ i → i < length v → hit s j (id_r false s y) (get_or v i 0) ≡ false) → any? (hit s j (id_r false s y)) v ≡ any? (hit s j (id_r false s y)) (take k v)
        all_there j f = cases (any? (hit s j (id_r false s y)) (take k v))
            (λ t. any_by_front (hit s j (id_r false s y)) v k t ∙ sym t)
            (λ t. any_none (hit s j (id_r false s y)) v (λ i r. cases (ltb i k)
            (λ u. let p = ltb-true i k u in rw (← (get_or-take k v i 0 p)) (any_at (hit s j (id_r false s y)) (take k v) i t (omega (arith, length-take k v))))
            (λ u. f i (ltb-false i k u) r)) ∙ sym t)
          where
            any_by_front : (p : ℕ → Bool) (l : List ℕ) (k : ℕ) → any? p (take k l) ≡ true → any? p l ≡ true
            any_by_front p l zero t = false_true t
            any_by_front p [] (suc k) t = false_true t
            any_by_front p (x ∷ l) (suc k) t = cases (p x) (λ u. rw u) (λ u. rw u (any_by_front p l k (rw u at t)))

    pub run_go : {found : Bool} {bits' : List ℕ} → k < length v → found ≡ later false s (id_r false s y) 0 (get_or v k 0)
        → Joined w bits bits' (λ i j. (found && names (no_r (get_or v k 0)) j) && in_line row i j) → Running s v y w row bits₀ (k + 1) bits'
    unfolding hit
    run_go {found} {bits'} h e g = record {
      within = omega arith;
      joined = joined_then x.joined g (λ i j.
          let z = id_r false s y in
          let tk : take (k + 1) v ≡ take k v ++ (get_or v k 0 ∷ []) = rw add-one (take-suc v k 0 h) in
          let a : any? (hit s j z) (take (k + 1) v) ≡ (any? (hit s j z) (take k v) || hit s j z (get_or v k 0)) =
          ap (any? (hit s j z)) tk ∙ any_append (hit s j z) (take k v) (get_or v k 0 ∷ []) ∙ ap (λ (q : Bool). any? (hit s j z) (take k v) || q) ((or_no (hit s j z (get_or v k 0)))) in
          rw (a, e) (spread (any? (hit s j z) (take k v)) (hit s j z (get_or v k 0)) (in_line row i j)));
    }

    pub run_end : length v ≤ k → Joined w bits₀ bits (λ i j. any? (hit s j (id_r false s y)) v && in_line row i j)
    run_end h = joined_to (λ i j. rw (take_all k v h)) x.joined

pub begins_yes : {s : Bytes} {v : List ℕ} {y r : ℕ} {ordered : Bool} → ordered ≡ true → (ordered ≡ true → InOrder false s v) → Cut false s v y r r → Begins true s v y r
begins_yes t o c = record { yes = λ _. (o t, c); no = λ e. false_true (sym e) }

pub begins_no : {s : Bytes} {v : List ℕ} {y : ℕ} → Begins false s v y 0
begins_no = record { yes = λ e. false_true e; no = λ _. refl }

-- ---- one output: in its slot, and behind, if it is marked
module _ (s : Bytes) (y h : ℕ) (slots t v : List ℕ) (e : h ≡ hash_all_value (id_r false s y)) (a : 0 < length slots) where
  abbrev at_slot : ℕ
  at_slot = get_or slots (slot_l (length slots) h) 0

  slot_only : {own : ℕ → Id → Bool} → RowsHold s slots t v own → (j : ℕ) → any? (hit s j (id_r false s y)) slots ≡ hit s j (id_r false s y) at_slot
  slot_only x j = cases (hit s j (id_r false s y) at_slot)
      (λ u. any_some (hit s j (id_r false s y)) slots (slot_l (length slots) h) (slot_in (length slots) h a) u ∙ sym u)
      (λ u. any_none (hit s j (id_r false s y)) slots (λ i p. cases (hit s j (id_r false s y) (get_or slots i 0))
      (λ w.
      let q = hit_id s j (id_r false s y) (get_or slots i 0) w in
      let z = x.placed i p q.1 in
      let o : slot_l (length slots) h ≡ i = ap (slot_l (length slots)) (e ∙ ap hash_all_value q.0) ∙ z in
      false_true (sym (rw o at u) ∙ w))
      (λ w. w)) ∙ sym u)

  unmarked : {own : ℕ → Id → Bool} → RowsHold s slots t v own → marked t h ≡ false → (j : ℕ) → any? (hit s j (id_r false s y)) v ≡ false
  unmarked x m j = any_none (hit s j (id_r false s y)) v (λ i p. cases (hit s j (id_r false s y) (get_or v i 0))
      (λ w.
      let q = hit_id s j (id_r false s y) (get_or v i 0) w in
      let z = all_at (λ x. marked t (hash_all_value (id_r false s x))) v i x.noted p in
      false_true (sym m ∙ ap (marked t) (e ∙ ap hash_all_value q.0) ∙ z))
      (λ w. w))

  module _ {w : ℕ} (row : ℕ) {bits bits' : List ℕ} {found : Bool} {x₀ : ℕ} (is : x₀ ≡ at_slot) (f : found ≡ later false s (id_r false s y) 0 x₀) (g : Joined w bits bits' (λ i j. (found && names (no_r x₀) j) && in_line row i j)) where
    slot_bits : (j : ℕ) → (found && names (no_r x₀) j) ≡ hit s j (id_r false s y) at_slot
    unfolding hit
    slot_bits j = rw (f, is)

    pub id_unseen : {b : Bool} → b ≡ marked t h → b ≡ false → Linked w s slots t v bits bits' (λ own i j. own j (id_r false s y) && in_line row i j)
    id_unseen q n = record {
      by = λ own x. joined_to (λ i j. ap (λ (z : Bool). z && in_line row i j) (slot_bits j ∙ sym (slot_only x j) ∙ sym (or_no (any? (hit s j (id_r false s y)) slots)) ∙ ap (λ (z : Bool). any? (hit s j (id_r false s y)) slots || z) (sym (unmarked x (sym q ∙ n) j)) ∙ x.has j (id_r false s y))) g;
    }

    pub id_seen : {bits'' : List ℕ} → Joined w bits' bits'' (λ i j. any? (hit s j (id_r false s y)) v && in_line row i j) → Linked w s slots t v bits bits'' (λ own i j. own j (id_r false s y) && in_line row i j)
    id_seen k = record {
      by = λ own x. joined_then g k (λ i j. ap (λ (z : Bool). (z && in_line row i j) || (any? (hit s j (id_r false s y)) v && in_line row i j)) (slot_bits j ∙ sym (slot_only x j))
          ∙ spread (any? (hit s j (id_r false s y)) slots) (any? (hit s j (id_r false s y)) v) (in_line row i j) ∙ ap (λ (z : Bool). z && in_line row i j) (x.has j (id_r false s y)));
    }

-- ---- the outputs of a record: those before i have their bits
pub record Linking (w row : ℕ) (s b : Bytes) (c at : ℕ) (slots t v bits₀ : List ℕ) (i left : ℕ) (bits : List ℕ) : Type 0 where
  pub scan : Scan id_c (λ (u : Unit {0}) (x : List Id). u) b c at tt i left tt
  pub done : (Id → Bool) → Bool
  pub split : (p : Id → Bool) → any? p (list_at id_c c b at) ≡ (done p || any? p (list_at id_c left b i))
  pub size : length bits ≡ length bits₀
  pub by : (own : ℕ → Id → Bool) → RowsHold s slots t v own → Joined w bits₀ bits (λ i j. done (own j) && in_line row i j)

pub linking : (w row : ℕ) (s b : Bytes) (c at : ℕ) (slots t v bits : List ℕ) → at ≤ length b → whole id_c c b at ≡ true → Linking w row s b c at slots t v bits at c bits
linking w row s b c at slots t v bits h k = record { scan = start id_c _ b c at tt h k; done = λ p. false; split = λ p. refl; size = refl; by = λ own x. joined_none (λ i j _. refl) }

module _ {w row : ℕ} {s b : Bytes} {c at : ℕ} {slots t v bits₀ : List ℕ} {i left : ℕ} {bits : List ℕ} (x : Linking w row s b c at slots t v bits₀ i left bits) where
  pub linking_go : {next : ℕ} {y : Id} (z : ℕ) {bits' : List ℕ} → 0 < left → Found id_c b i next (λ a. a ≡ y) → id_r false s z ≡ part 32 b i → length bits' ≡ length bits
      → Linked w s slots t v bits bits' (λ own i j. own j (id_r false s z) && in_line row i j) → Linking w row s b c at slots t v bits₀ next (left - 1) bits'
  linking_go {next} {y} z {bits'} p rd e n g =
      let u = here x.scan p rd in
      let q : id_r false s z ≡ y = e ∙ (id_bytes u).0 in
      record {
        scan = on x.scan tt p u refl;
        done = λ f. x.done f || f y;
        split = λ f. x.split f ∙ ap (λ (k : List Id). x.done f || any? f k) u.list ∙ ap (λ (k : Id). x.done f || (f k || any? f (list_at id_c (left - 1) b next))) u.is ∙ sym (or_assoc (x.done f) (f y) (any? f (list_at id_c (left - 1) b next)));
        size = n ∙ x.size;
        by = λ own o. joined_then (x.by own o) (g.by own o) (λ i j. ap (λ (k : Id). (x.done (own j) && in_line row i j) || (own j k && in_line row i j)) q ∙ spread (x.done (own j)) (own j y) (in_line row i j));
      }

  pub linking_end : left ≡ 0 → Linked w s slots t v bits₀ bits (λ own i j. any? (own j) (list_at id_c c b at) && in_line row i j)
  linking_end e = record {
    by = λ own o. joined_to (λ i j. ap (λ (q : Bool). q && in_line row i j) (sym (or_no (x.done (own j))) ∙ sym (x.split (own j) ∙ ap (λ (k : List Id). x.done (own j) || any? (own j) k) (none_left id_c b left _ e).0))) (x.by own o);
  }

-- ---- the outputs of all rows: those before i have their bits
unfoldable pub lines_to : Bytes → List ℕ → ℕ → (ℕ → Id → Bool) → ℕ → ℕ → Bool
lines_to s at n own i j = ltb i n && (any? (own j) (outs_at s at i) && not (eqb j i))

pub lines_start : (w : ℕ) (s : Bytes) (at slots t v bits : List ℕ) → Linked w s slots t v bits bits (lines_to s at 0)
unfolding lines_to
lines_start w s at slots t v bits = record { by = λ own x. joined_none (λ i j _. rw (le-ltb i 0 (omega arith))) }

pub lines_go : {w : ℕ} (i : ℕ) (s : Bytes) (at : List ℕ) {ids : List Id} {slots t v bits₀ bits bits' : List ℕ} → ids ≡ outs_at s at i → Linked w s slots t v bits₀ bits (lines_to s at i)
    → Linked w s slots t v bits bits' (λ own k j. any? (own j) ids && in_line i k j) → Linked w s slots t v bits₀ bits' (lines_to s at (i + 1))
unfolding lines_to
lines_go {w} i s at {ids} e x y = record {
  by = λ own o. joined_then (x.by own o) (y.by own o) (λ k j. both own k j);
}
  where
    both : (own : ℕ → Id → Bool) (k j : ℕ) → ((ltb k i && (any? (own j) (outs_at s at k) && not (eqb j k))) || (any? (own j) ids && (eqb k i && not (eqb j i)))) ≡ (ltb k (i + 1) && (any? (own j) (outs_at s at k) && not (eqb j k)))
    both own k j = cases (eqb k i)
        (λ t. let q = eqb-true k i t in
        let z : any? (own j) ids ≡ any? (own j) (outs_at s at k) = rw (e, q) in
        let n : eqb j i ≡ eqb j k = rw q in
        rw (t, z, n, le-ltb k i (omega arith), lt-ltb k (i + 1) (omega arith)))
        (λ t. let q = eqb-false k i t in
        rw (t, upto q, and_off (any? (own j) ids) (not (eqb j i))) ((or_no (ltb k (i + 1) && (any? (own j) (outs_at s at k) && not (eqb j k))))))
      where
        upto : (k ≡ i → ⊥) → ltb k i ≡ ltb k (i + 1)
        upto q = cases (ltb k i)
            (λ t. let h = ltb-true k i t in t ∙ sym (lt-ltb k (i + 1) (omega arith)))
            (λ t. let h = ltb-false k i t in t ∙ sym (le-ltb k (i + 1) (more k i q h)))
          where
            more : (k i : ℕ) → (k ≡ i → ⊥) → i ≤ k → i + 1 ≤ k
            more k i q h = cases (ltb i k) (λ w. let z = ltb-true i k w in omega arith) (λ w. let o = ltb-false i k w in absurd (q (let z : k ≡ i = omega arith in z)))

pub lines_end : {w : ℕ} (i : ℕ) {s : Bytes} (at : List ℕ) {slots t v bits₀ bits : List ℕ} → i ≡ length at → Linked w s slots t v bits₀ bits (lines_to s at i) → Linked w s slots t v bits₀ bits (outputs_linked s at)
unfolding lines_to outputs_linked
lines_end i at e x = record { by = λ own o. joined_to (λ k j. rw e) (x.by own o) }

-- ---- rows that are joined
id_join : (s : Bytes) (w x : ℕ) → id_r false s (bit_or w (no_r x)) ≡ id_r false s w
unfolding id_r
id_join s w x = rw (join_place w (no_r x) (no_small x))

-- a row with the number of another one too, of the same id and group, says what both say
hit_join : (s : Bytes) (j : ℕ) (z : Id) (w x : ℕ) → id_r false s w ≡ id_r false s x → no_r w / 65536 ≡ no_r x / 65536 → hit s j z (bit_or w (no_r x)) ≡ (hit s j z w || hit s j z x)
hit_join s j z w x e f =
    hit_is s j z (bit_or w (no_r x))
    ∙ rw (id_join s w x, join_number w (no_r x) (no_small x), names_or (no_r w) (no_r x) j f) (and_or (same? z (id_r false s w)) (names (no_r w) j) (names (no_r x) j))
    ∙ sym (or_same (hit_is s j z w) (hit_is s j z x ∙ ap (λ (i : Id). same? z i && names (no_r x) j) (sym e)))

pub again_is : {s : Bytes} {v : List ℕ} {k x : ℕ} {a b : Bool} → (k ≡ 0 → ⊥) → a ≡ same? (id_r false s (get_or v (k - 1) 0)) (id_r false s x)
    → b ≡ (a && eqb (get_or v (k - 1) 0 % 4294967296 / 65536) (x % 4294967296 / 65536)) → b ≡ true → Again s v k x
unfolding no_r
again_is {s} {v} {k} {x} {a} {b} n e f t =
    let u = and_true a (eqb (get_or v (k - 1) 0 % 4294967296 / 65536) (x % 4294967296 / 65536)) (sym f ∙ t) in
    record { some = pos k n; id = same_is (id_r false s (get_or v (k - 1) 0)) (id_r false s x) (sym e ∙ u.0); group = eqb-true _ _ u.1 }
  where
    pos : (k : ℕ) → (k ≡ 0 → ⊥) → 0 < k
    pos zero n = absurd (n refl)
    pos (suc k) n = omega arith

-- the row x goes into the last of k rows
pub thinner_joins : {s : Bytes} (v : List ℕ) (k x : ℕ) {n : ℕ} {v' : List ℕ} → k < length v → Again s v k x → n ≡ no_r x → v' ≡ set v (k - 1) (bit_or (get_or v (k - 1) 0) n) → Thinner s v k x k v'
thinner_joins {s} v k x {n} {v'} h a m e =
    let w = get_or v (k - 1) 0 in
    let l : suc (k - 1) ≡ k = let z = a.some in omega arith in
    let is : v' ≡ set v (k - 1) (bit_or w (no_r x)) = e ∙ ap (λ (n : ℕ). set v (k - 1) (bit_or w n)) m in
    let was : take k v ≡ take (k - 1) v ++ (w ∷ []) = ap (λ (n : ℕ). take n v) (sym l) ∙ take-suc v (k - 1) 0 (let z = a.some in omega arith) in
    let now : take k v' ≡ take (k - 1) v ++ (bit_or w (no_r x) ∷ []) = ap (take k) is ∙ ap (λ (n : ℕ). take n (set v (k - 1) (bit_or w (no_r x)))) (sym l) ∙ take-suc-set v (k - 1) (bit_or w (no_r x)) (let z = a.some in omega arith) in
    record {
      size = ap length is ∙ length-set v (k - 1) (bit_or w (no_r x));
      up = omega arith;
      rest = ap (drop (k + 1)) is ∙ drop-set-lt (k + 1) v (k - 1) (bit_or w (no_r x)) (omega arith);
      same = λ j i.
          ap (any? (hit s j i)) now ∙ any_append (hit s j i) (take (k - 1) v) (bit_or w (no_r x) ∷ [])
          ∙ ap (λ (q : Bool). any? (hit s j i) (take (k - 1) v) || (q || false)) (hit_join s j i w x a.id a.group)
          ∙ mix (any? (hit s j i) (take (k - 1) v)) (hit s j i w) (hit s j i x)
          ∙ ap (λ (q : Bool). q || hit s j i x) (sym (ap (any? (hit s j i)) was ∙ any_append (hit s j i) (take (k - 1) v) (w ∷ [])));
      some = λ p b c.
          let P : ℕ → Bool = λ y. p (id_r false s y) in
          let u = and_true (all? P (take (k - 1) v)) (all? P (w ∷ [])) (sym (all_append P (take (k - 1) v) (w ∷ [])) ∙ ap (all? P) (sym was) ∙ b) in
          let q : P (bit_or w (no_r x)) ≡ true = ap p (id_join s w x ∙ a.id) ∙ c in
          ap (all? P) now ∙ all_append P (take (k - 1) v) (bit_or w (no_r x) ∷ []) ∙ and_both (all? P (take (k - 1) v)) (all? P (bit_or w (no_r x) ∷ [])) u.0 (and_both (P (bit_or w (no_r x))) true q refl);
    }
  where
    mix : (a b c : Bool) → (a || ((b || c) || false)) ≡ ((a || (b || false)) || c)
    mix true b c = refl
    mix false true c = refl
    mix false false true = refl
    mix false false false = refl

pub thinner_new : {s : Bytes} (v : List ℕ) (k x : ℕ) {v' : List ℕ} → k < length v → v' ≡ set v k x → Thinner s v k x (k + 1) v'
thinner_new {s} v k x {v'} h e =
    let t : take (k + 1) v' ≡ take k v ++ (x ∷ []) = ap (take (k + 1)) e ∙ rw add-one (take-suc-set v k x h) in
    record {
      size = ap length e ∙ length-set v k x;
      up = omega arith;
      rest = ap (drop (k + 1)) e ∙ rw add-one (drop_set v k x);
      same = λ j i. ap (any? (hit s j i)) t ∙ any_append (hit s j i) (take k v) (x ∷ []) ∙ ap (λ (q : Bool). any? (hit s j i) (take k v) || q) (or_no (hit s j i x));
      some = λ p a b.
          let P : ℕ → Bool = λ y. p (id_r false s y) in
          ap (all? P) t ∙ all_append P (take k v) (x ∷ []) ∙ and_both (all? P (take k v)) (all? P (x ∷ [])) a (and_both (P x) true b refl);
    }
  where
    drop_set : (v : List ℕ) (k x : ℕ) → drop (suc k) (set v k x) ≡ drop (suc k) v
    drop_set [] k x = refl
    drop_set (a ∷ v) zero x = refl
    drop_set (a ∷ v) (suc k) x = drop_set v k x

-- those before i are thinned to k
pub record Thinning (s : Bytes) (v₀ : List ℕ) (i k : ℕ) (v : List ℕ) : Type 0 where
  pub within : i ≤ length v₀
  pub up : k ≤ i
  pub size : length v ≡ length v₀
  pub rest : drop i v ≡ drop i v₀
  pub thin : Thinned s (take i v₀) (take k v)

pub thinning : (s : Bytes) (v : List ℕ) → Thinning s v 0 0 v
thinning s v = record { within = omega arith; up = omega arith; size = refl; rest = refl; thin = record { same = λ j i. refl; some = λ p e. e } }

pub thinning_go : {s : Bytes} {v₀ : List ℕ} {i k : ℕ} {v : List ℕ} {r : ℕ} {v' : List ℕ} → Thinning s v₀ i k v → i < length v₀ → Thinner s v k (get_or v i 0) r v' → Thinning s v₀ (i + 1) r v'
thinning_go {s} {v₀} {i} {k} {v} {r} {v'} x h g =
    let here : get_or v i 0 ≡ get_or v₀ i 0 = get_drop v i ∙ ap (λ (l : List ℕ). get_or l 0 0) x.rest ∙ sym (get_drop v₀ i) in
    let tk : take (i + 1) v₀ ≡ take i v₀ ++ (get_or v₀ i 0 ∷ []) = rw add-one (take-suc v₀ i 0 h) in
    record {
      within = omega arith;
      up = let a = g.up in let b = x.up in omega arith;
      size = g.size ∙ x.size;
      rest = let d : k + 1 + (i - k) ≡ i + 1 = let b = x.up in omega arith in
          ap (λ (n : ℕ). drop n v') (sym d) ∙ sym (drop-drop (i - k) (k + 1) v') ∙ ap (drop (i - k)) g.rest ∙ drop-drop (i - k) (k + 1) v ∙ ap (λ (n : ℕ). drop n v) d
          ∙ sym (drop-drop 1 i v) ∙ ap (drop 1) x.rest ∙ drop-drop 1 i v₀;
      thin = record {
        same = λ j z. g.same j z ∙ ap (λ (b : Bool). b || hit s j z (get_or v i 0)) (x.thin.same j z) ∙ ap (λ (n : ℕ). any? (hit s j z) (take i v₀) || hit s j z n) here
            ∙ sym (ap (any? (hit s j z)) tk ∙ any_append (hit s j z) (take i v₀) (get_or v₀ i 0 ∷ []) ∙ ap (λ (q : Bool). any? (hit s j z) (take i v₀) || q) (or_no (hit s j z (get_or v₀ i 0))));
        some = λ p e.
            let P : ℕ → Bool = λ y. p (id_r false s y) in
            let u = and_true (all? P (take i v₀)) (all? P (get_or v₀ i 0 ∷ [])) (sym (all_append P (take i v₀) (get_or v₀ i 0 ∷ [])) ∙ ap (all? P) (sym tk) ∙ e) in
            g.some p (x.thin.some p u.0) (ap P here ∙ (and_true (P (get_or v₀ i 0)) true u.1).0);
      };
    }
  where
    get_drop : (v : List ℕ) (i : ℕ) → get_or v i 0 ≡ get_or (drop i v) 0 0
    get_drop [] zero = refl
    get_drop [] (suc i) = refl
    get_drop (a ∷ v) zero = refl
    get_drop (a ∷ v) (suc i) = get_drop v i

pub thinning_end : {s : Bytes} {v₀ : List ℕ} {i k : ℕ} {v : List ℕ} → Thinning s v₀ i k v → length v₀ ≤ i → Thinned s v₀ (take k v) × (k ≤ length v₀)
thinning_end {s} {v₀} {i} {k} {v} x h = (rw (take_all i v₀ h) at x.thin, let a = x.up in let b = x.within in omega arith)

held_thin : {s : Bytes} {slots t v z : List ℕ} {own : ℕ → Id → Bool} → Thinned s v z → RowsHold s slots t v own → RowsHold s slots t z own
held_thin {s} {slots} {t} n x = record {
  has = λ j i. ap (λ (b : Bool). any? (hit s j i) slots || b) (n.same j i) ∙ x.has j i;
  placed = x.placed;
  noted = n.some (λ y. marked t (hash_all_value y)) x.noted;
}

pub linked_thin : {w : ℕ} {s : Bytes} (at : List ℕ) {slots t v v' z bits bits' : List ℕ} → Shuffled v v' → Thinned s v' z → Linked w s slots t z bits bits' (outputs_linked s at) → Linked w s slots t v bits bits' (outputs_linked s at)
linked_thin at k n x = record { by = λ own o. x.by own (held_thin n (held_order k o)) }

-- ---- all blocks: those of the records before a are through
abbrev pub wanted_to : Bytes → List ℕ → ℕ → ℕ → Id → Bool
wanted_to s at a j z = ltb j a && among? z (wants_at s at j)

pub blocks_start : (w : ℕ) (s : Bytes) (at bits : List ℕ) → Joined w bits bits (outputs_linked s at (wanted_to s at 0))
unfolding outputs_linked
blocks_start w s at bits = joined_none (λ i j _. none i j)
  where
    no_any : (j : ℕ) (l : List Id) → any? (wanted_to s at 0 j) l ≡ false
    no_any j [] = refl
    no_any j (z ∷ l) = ap (λ (q : Bool). (q && among? z (wants_at s at j)) || any? (wanted_to s at 0 j) l) (le-ltb j 0 (omega arith)) ∙ no_any j l

    none : (i j : ℕ) → (ltb i (length at) && (any? (wanted_to s at 0 j) (outs_at s at i) && not (eqb j i))) ≡ false
    none i j = ap (λ (q : Bool). ltb i (length at) && (q && not (eqb j i))) (no_any j (outs_at s at i)) ∙ and_off (ltb i (length at)) (not (eqb j i))

pub blocks_end : {w : ℕ} (a : ℕ) (s : Bytes) (at : List ℕ) {bits bits' : List ℕ} → a ≡ length at → Joined w bits bits' (outputs_linked s at (wanted_to s at a)) → Joined w bits bits' (outputs_linked s at (wanted_to s at (length at)))
blocks_end a s at e x = rw (← e) x

pub blocks_go : {w : ℕ} (a b : ℕ) (s : Bytes) (at : List ℕ) {slots t v bits₀ bits bits' : List ℕ} → a ≤ b → Joined w bits₀ bits (outputs_linked s at (wanted_to s at a)) → RowsHold s slots t v (wanted_in s at a b)
    → Linked w s slots t v bits bits' (outputs_linked s at) → Joined w bits₀ bits' (outputs_linked s at (wanted_to s at b))
unfolding outputs_linked
blocks_go {w} a b s at h x o y = joined_then x (y.by (wanted_in s at a b) o) (λ i j.
    spread (ltb i (length at)) (any? (wanted_to s at a j) (outs_at s at i)) (any? (wanted_in s at a b j) (outs_at s at i)) (not (eqb j i))
    ∙ ap (λ (q : Bool). ltb i (length at) && (q && not (eqb j i))) (any_either (wanted_to s at a j) (wanted_in s at a b j) (outs_at s at i) ∙ any_same _ (wanted_to s at b j) (λ z. both j (among? z (wants_at s at j))) (outs_at s at i)))
  where
    spread : (l p q n : Bool) → ((l && (p && n)) || (l && (q && n))) ≡ (l && ((p || q) && n))
    spread true true true true = refl
    spread true true true false = refl
    spread true true false true = refl
    spread true true false false = refl
    spread true false q n = refl
    spread false p q n = refl

    both : (j : ℕ) (c : Bool) → ((ltb j a && c) || ((leb a j && ltb j b) && c)) ≡ (ltb j b && c)
    both j c = cases (ltb j a)
        (λ t. let k = ltb-true j a t in rw (t, lt-leb a j k, lt-ltb j b (omega arith)) ((or_no c)))
        (λ t. let k = ltb-false j a t in rw (t, le-leb a j k))

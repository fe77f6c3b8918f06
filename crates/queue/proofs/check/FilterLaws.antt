-- The filter's laws, and the pass that uses it: inputs in one record only. Finish numbers by counts. Assumes nothing.
use Rattle.std.specs.Prelude.{◌≡◌, refl, Bool, true, false, not, ◌&&◌, ◌||◌, List, [], ◌∷◌, ℕ, ◌+◌, ◌-◌, ◌*◌, ◌/◌, ◌%◌, ◌≤◌, ◌<◌, max, eqb, ltb, length, get_or}
use Rattle.std.proofs.Common.{ap, ap₂, sym, ◌∙◌, subst, arith, mod-lt, le_antisymm, le_trans, length-set, get_or-set_same, get_or-set_other, eqb-true, eq-eqb, ne_eqb, ltb-true, ltb-false}
use Rattle.std.proofs.Math.Nat.{max-le, le-max_left, le-max_right}
use Rattle.std.proofs.Math.Arith.{bin_ind, digits_div, digits_mod}
use Rattle.std.specs.Int.Bits.{bit_or, or_step, or_self}
use Rattle.std.proofs.lemmas.Nat.{or_comm}
use Rattle.std.proofs.lemmas.Bool.{eqb-false}
use Rattle.std.specs.Int.{from_bool}
use Rattle.queue.specs.Basics.{one_of}
use Rattle.queue.specs.Codec.{cases}
use Rattle.queue.specs.Lists.{and_true}
use Rattle.queue.specs.bytes.OrderLaws.{same_is, same_self, same_sym}
use Rattle.queue.specs.layout.FrameCodec.{id_c}
use Rattle.queue.specs.layout.FormsCodec.{rec_in_value, after_in_value}
use Rattle.queue.specs.bytes.ViewAs.{view}
use Rattle.queue.specs.bytes.ReaderAs.{Found, whole, list_at}
use Rattle.queue.specs.bytes.ReaderLaws.{turn, none_left, false_true}
use Rattle.queue.specs.check.FilterAs.{slot_l, mask_l, hash_l, hash_n, marked, mark_l, has_in, held_by_value, Passed, New, NewSeen}
use Rattle.queue.specs.paper.Records.{Bytes, Id, Rec}
use Rattle.queue.specs.paper.Lists.{one, count}
use Rattle.queue.specs.paper.Ids.{same?}
use Rattle.queue.specs.paper.Sound.{holder?, inputs, stamped?, distinct?, among?, used?, clash?, apart?}
use Rattle.queue.specs.declared.layout.frame.Form.{Form}
use Rattle.queue.specs.declared.layout.frame.Seen.{Seen}
use Rattle.queue.proofs.layout.TurnLaws.{Scan, on, end, FoundForm, see_in}
use Rattle.queue.proofs.check.ScanLaws.{nothing_f}

-- ---- bits
max_assoc : (a b c : ℕ) → max (max a b) c ≡ max a (max b c)
max_assoc a b c = le_antisymm
    (max-le (max-le (le-max_left a (max b c)) (le_trans (le-max_left b c) (le-max_right a (max b c)))) (le_trans (le-max_right b c) (le-max_right a (max b c))))
    (max-le (le_trans (le-max_left a b) (le-max_left (max a b) c)) (max-le (le_trans (le-max_right a b) (le-max_left (max a b) c)) (le-max_right (max a b) c)))

digit : (a b : ℕ) → max (a % 2) (b % 2) < 2
digit a b =
    let p : a % 2 < 2 = mod-lt a (omega arith) in
    let q : b % 2 < 2 = mod-lt b (omega arith) in
    let m : max (a % 2) (b % 2) ≤ 1 = max-le (omega arith) (omega arith) in
    omega arith

pub or_half : (a b : ℕ) → bit_or a b / 2 ≡ bit_or (a / 2) (b / 2)
or_half a b = ap (λ (x : ℕ). x / 2) (or_step a b) ∙ digits_div (bit_or (a / 2) (b / 2)) (digit a b)

pub or_odd : (a b : ℕ) → bit_or a b % 2 ≡ max (a % 2) (b % 2)
or_odd a b = ap (λ (x : ℕ). x % 2) (or_step a b) ∙ digits_mod (bit_or (a / 2) (b / 2)) (digit a b)

or_assoc : (a b c : ℕ) → bit_or (bit_or a b) c ≡ bit_or a (bit_or b c)
or_assoc = bin_ind (λ (a : ℕ). (b c : ℕ) → bit_or (bit_or a b) c ≡ bit_or a (bit_or b c)) (λ b c. refl)
    (λ a ih b c. or_step (bit_or a b) c
    ∙ ap₂ (λ (x y : ℕ). x * 2 + y)
    (ap (λ (x : ℕ). bit_or x (c / 2)) (or_half a b) ∙ ih (b / 2) (c / 2) ∙ ap (λ (x : ℕ). bit_or (a / 2) x) (sym (or_half b c)))
    (ap (λ (x : ℕ). max x (c % 2)) (or_odd a b) ∙ max_assoc (a % 2) (b % 2) (c % 2) ∙ ap (λ (x : ℕ). max (a % 2) x) (sym (or_odd b c)))
    ∙ sym (or_step a (bit_or b c)))

or_keep : (w m : ℕ) → bit_or (bit_or w m) m ≡ bit_or w m
or_keep w m = or_assoc w m m ∙ ap (λ (x : ℕ). bit_or w x) (or_self m)

or_more : (w m g : ℕ) → bit_or w g ≡ w → bit_or (bit_or w m) g ≡ bit_or w m
or_more w m g e = or_assoc w m g ∙ ap (λ (x : ℕ). bit_or w x) (or_comm m g) ∙ sym (or_assoc w g m) ∙ ap (λ (x : ℕ). bit_or x m) e

-- ---- what is marked is marked, and stays so
pub slot_in : (n h : ℕ) → 0 < n → slot_l n h < n
unfolding slot_l
slot_in n h p = mod-lt h p

pub mark_size : (t : List ℕ) (h : ℕ) → length (mark_l t h) ≡ length t
unfolding mark_l
mark_size t h = simp length-set

module _ (t : List ℕ) (h : ℕ) (p : 0 < length t) where
  at_slot : get_or (mark_l t h) (slot_l (length t) h) 0 ≡ bit_or (get_or t (slot_l (length t) h) 0) (mask_l h)
  unfolding mark_l
  at_slot = get_or-set_same t (slot_l (length t) h) _ 0 (slot_in (length t) h p)

  pub mark_here : marked (mark_l t h) h ≡ true
  unfolding marked
  mark_here = rw (mark_size t h, at_slot) (let w = get_or t (slot_l (length t) h) 0 in eq-eqb (bit_or (bit_or w (mask_l h)) (mask_l h)) (bit_or w (mask_l h)) (or_keep w (mask_l h)))

  other : (g : ℕ) → (slot_l (length t) g ≡ slot_l (length t) h → ⊥) → get_or (mark_l t h) (slot_l (length t) g) 0 ≡ get_or t (slot_l (length t) g) 0
  unfolding mark_l
  other g k = get_or-set_other t (slot_l (length t) h) (slot_l (length t) g) _ 0 k

  pub mark_old : (g : ℕ) → marked t g ≡ true → marked (mark_l t h) g ≡ true
  unfolding marked
  mark_old g e =
      let w = get_or t (slot_l (length t) g) 0 in
      let f : bit_or w (mask_l g) ≡ w = eqb-true (bit_or w (mask_l g)) w e in
      cases (eqb (slot_l (length t) g) (slot_l (length t) h))
      (λ q.
      let k = eqb-true (slot_l (length t) g) (slot_l (length t) h) q in
      let v = get_or t (slot_l (length t) h) 0 in
      rw (mark_size t h, k, at_slot) (eq-eqb (bit_or (bit_or v (mask_l h)) (mask_l g)) (bit_or v (mask_l h)) (or_more v (mask_l h) (mask_l g) (rw k at f))))
      (λ q. rw (mark_size t h, other g (eqb-false (slot_l (length t) g) (slot_l (length t) h) q)) e)

-- ---- one key
module _ {K : Type 0} {own : K → Bool} {hash H : K → ℕ} (y : K) (only : (x : K) → own x ≡ true → y ≡ x) {t : List ℕ} {h : ℕ} (e : h ≡ hash y) {b : Bool} (q : b ≡ marked t h) where
  pub pass_seen : {c : ℕ} → b ≡ true → c ≡ H y → Passed own hash H t (ltb 1 c) t
  pass_seen {c} f g = record {
    size = refl;
    old = λ _ m. m;
    two = λ u. (y, let k = ltb-true 1 c u in omega arith);
    one = λ u x o _. subst (λ (z : K). H z ≤ 1) (only x o) (let k = ltb-false 1 c u in omega arith);
    new = λ u x o. subst (λ (z : K). marked t (hash z) ≡ true) (only x o) (sym (q ∙ ap (marked t) e) ∙ f);
  }

  pub pass_new : {t' : List ℕ} → b ≡ false → 0 < length t → t' ≡ mark_l t h → Passed own hash H t false t'
  pass_new {t'} f p g = record {
    size = ap length g ∙ mark_size t h;
    old = λ k m. ap (λ (v : List ℕ). marked v k) g ∙ mark_old t h p k m;
    two = λ u. false_true u;
    one = λ u x o m. false_true (sym f ∙ q ∙ ap (marked t) e ∙ ap (λ (z : K). marked t (hash z)) (only x o) ∙ m);
    new = λ u x o. subst (λ (z : K). marked t' (hash z) ≡ true) (only x o) (ap (λ (v : List ℕ). marked v (hash y)) g ∙ ap (marked (mark_l t h)) (sym e) ∙ mark_here t h p);
  }

-- ---- new keys: passed where each one counts twice, so that none was marked
pub new_of_law : {K : Type 0} {own : K → Bool} {hash : K → ℕ} {t t' : List ℕ} → Passed own hash (λ _. 2) t false t' → New own hash t t'
new_of_law {hash = hash} {t} g = record {
  old = g.old;
  none = λ x o. cases (marked t (hash x)) (λ m. let h = g.one refl x o m in absurd (let z : ⊥ = omega arith in z)) (λ m. m);
  new = g.new refl;
}

new_passed : {K : Type 0} {own : K → Bool} {hash H : K → ℕ} {t t' : List ℕ} → length t' ≡ length t → New own hash t t' → Passed own hash H t false t'
new_passed e g = record { size = e; old = g.old; two = λ u. false_true u; one = λ _ x o m. false_true (sym (g.none x o) ∙ m); new = λ _. g.new }

module _ {v : Bytes} {x : Seen} {clear : Bool} (c : clear ≡ true) {t t' : List ℕ} (g : New (λ z. among? z (list_at id_c x.facts.ins v x.at)) hash_l t t') where
  pub new_held : x.facts.holder ≡ true → NewSeen v x clear t t'
  new_held h =
      let n : (m : ℕ) → (not x.facts.holder && eqb x.facts.finish.0 m) ≡ true → ⊥ = λ m o. false_true (rw h at o) in
      record { before = c; inputs = g; number = record { old = g.old; none = λ m o. absurd (n m o); new = λ m o. absurd (n m o) } }

  pub new_tomb : {t'' : List ℕ} → x.facts.holder ≡ false → New (λ m. eqb x.facts.finish.0 m) hash_n t' t'' → NewSeen v x clear t t''
  new_tomb {t''} h k =
      let o : (m : ℕ) → marked t m ≡ true → marked t'' m ≡ true = λ m a. k.old m (g.old m a) in
      record {
        before = c;
        inputs = record { old = o; none = g.none; new = λ z a. k.old (hash_l z) (g.new z a) };
        number = record { old = o; none = λ m a. cases (marked t (hash_n m)) (λ q. false_true (sym (k.none m (rw h at a)) ∙ g.old (hash_n m) q)) (λ q. q); new = λ m a. k.new m (rw h at a) };
      }

-- ---- the ids of a record: those before i are passed
pub record Passing (H : Id → ℕ) (v : Bytes) (all : List Id) (t₀ : List ℕ) (i left : ℕ) (t : List ℕ) : Type 0 where
  pub within : i ≤ length v
  pub whole : whole id_c left v i ≡ true
  pub size : length t ≡ length t₀
  pub old : (h : ℕ) → marked t₀ h ≡ true → marked t h ≡ true
  pub one : (z : Id) → among? z all ≡ true → among? z (list_at id_c left v i) ≡ false → marked t₀ (hash_l z) ≡ true → H z ≤ 1
  pub new : (z : Id) → among? z all ≡ true → among? z (list_at id_c left v i) ≡ false → marked t (hash_l z) ≡ true

pub passing : (H : Id → ℕ) (v : Bytes) (m at : ℕ) (t : List ℕ) → at ≤ length v → whole id_c m v at ≡ true → Passing H v (list_at id_c m v at) t at m t
passing H v m at t h w = record { within = h; whole = w; size = refl; old = λ _ m. m; one = λ z a n _. false_true (sym n ∙ a); new = λ z a n. false_true (sym n ∙ a) }

module _ {H : Id → ℕ} {v : Bytes} {all : List Id} {t₀ : List ℕ} {i left : ℕ} {t : List ℕ} (x : Passing H v all t₀ i left t) where
  module _ {next : ℕ} {b : Bool} {y : Id} {t' : List ℕ} (p : 0 < left) (r : Found id_c v i next (λ w. w ≡ y)) (g : Passed (same? y) hash_l H t b t') where
    -- an id passed before, or this one
    split : {X : Type 0} (z : Id) → among? z (list_at id_c (left - 1) v next) ≡ false → (same? y z ≡ true → X) → (among? z (list_at id_c left v i) ≡ false → X) → X
    split z n f k =
        let u = turn left x.whole p r in
        cases (same? y z)
        (λ q. f q)
        (λ q. k (rw (u.list, u.is, same_sym z y, q) n))

    pub passing_go : b ≡ false → Passing H v all t₀ next (left - 1) t'
    passing_go f =
        let u = turn left x.whole p r in
        record {
          within = u.within;
          whole = u.rest;
          size = g.size ∙ x.size;
          old = λ h m. g.old h (x.old h m);
          one = λ z a n m. split z n (λ q. g.one f z q (x.old (hash_l z) m)) (λ q. x.one z a q m);
          new = λ z a n. split z n (λ q. g.new f z q) (λ q. g.old (hash_l z) (x.new z a q));
        }

    pub passing_stop : {own : Id → Bool} → b ≡ true → Passed own hash_l H t₀ true t'
    passing_stop f = record { size = g.size ∙ x.size; old = λ h m. g.old h (x.old h m); two = λ _. g.two f; one = λ u. false_true (sym u); new = λ u. false_true (sym u) }

  pub passing_end : left ≡ 0 → Passed (λ z. among? z all) hash_l H t₀ false t
  passing_end e =
      let n : (z : Id) → among? z (list_at id_c left v i) ≡ false = λ z. ap (among? z) (none_left id_c v left i e).0 in
      record { size = x.size; old = x.old; two = λ u. false_true u; one = λ u z a m. x.one z a (n z) m; new = λ u z a. x.new z a (n z) }

-- ---- the records: those before rest are passed
pub record Walk {K : Type 0} (has : K → Rec → Bool) (hash : K → ℕ) (all rest : List Rec) (t : List ℕ) : Type 0 where
  pub met : (x : K) → count (has x) rest < count (has x) all → marked t (hash x) ≡ true
  pub few : (x : K) → count (has x) all ≤ 1 + count (has x) rest

pub walk_start : {K : Type 0} (has : K → Rec → Bool) (hash : K → ℕ) (all : List Rec) (t : List ℕ) → Walk has hash all all t
walk_start has hash all t = record { met = λ x q. absurd (let z : ⊥ = omega arith in z); few = λ x. omega arith }

module _ {K : Type 0} (has : K → Rec → Bool) (hash : K → ℕ) (all : List Rec) (r : Rec) (l : List Rec) {t t' : List ℕ} (w : Walk has hash all (r ∷ l) t) {b : Bool} (g : Passed (λ x. has x r) hash (λ x. count (has x) all) t b t') (f : b ≡ false) where
  walk_go : Walk has hash all l t'
  walk_go = record {
    met = λ x q. cases (has x r)
        (λ a. g.new f x a)
        (λ a. g.old (hash x) (w.met x (rw a (omega arith))));
    few = λ x. cases (has x r)
        (λ a. cases (marked t (hash x))
        (λ k. let h = g.one f x a k in omega arith)
        (λ k. cases (ltb (1 + count (has x) l) (count (has x) all))
        (λ u. let h = ltb-true (1 + count (has x) l) (count (has x) all) u in false_true (sym k ∙ w.met x (rw a h)))
        (λ u. ltb-false (1 + count (has x) l) (count (has x) all) u)))
        (λ a. let h = rw a at (w.few x) in omega arith);
  }

pass_own : {K : Type 0} {own : K → Bool} (own' : K → Bool) {hash H : K → ℕ} {t t' : List ℕ} {b : Bool} → ((x : K) → own x ≡ own' x) → Passed own hash H t b t' → Passed own' hash H t b t'
pass_own own' e g = record { size = g.size; old = g.old; two = g.two; one = λ f x o. g.one f x (e x ∙ o); new = λ f x o. g.new f x (e x ∙ o) }

pub walk_new : {K : Type 0} (has : K → Rec → Bool) {own : K → Bool} {hash : K → ℕ} {all : List Rec} (r : Rec) (l : List Rec) {t t' : List ℕ} → Walk has hash all (r ∷ l) t → length t' ≡ length t → ((x : K) → own x ≡ has x r) → New own hash t t' → Walk has hash all l t'
walk_new has {hash = hash} {all} r l w e o g = walk_go has hash all r l w (pass_own (λ x. has x r) o (new_passed e g)) refl

walk_end : {K : Type 0} {has : K → Rec → Bool} {hash : K → ℕ} {all : List Rec} {t : List ℕ} → Walk has hash all [] t → (x : K) → count (has x) all ≤ 1
walk_end w x = let h = w.few x in omega arith

-- ---- inputs by counts
pub among_more : (x y : Id) (l : List Id) → among? x l ≡ true → among? x (y ∷ l) ≡ true
among_more x y l h = cases (same? x y) (λ t. rw t) (λ t. rw t h)

pub used_none : (x : Id) (l : List Rec) → count (has_in x) l ≡ 0 → used? x l ≡ false
unfolding used?
used_none x [] e = refl
used_none x (r ∷ l) e = cases (has_in x r)
    (λ t. let f = rw t at e in absurd (let z : ⊥ = omega arith in z))
    (λ t. let f = rw t at e in rw t (used_none x l (omega arith)))

pub used_some : (x : Id) (l : List Rec) → 0 < count (has_in x) l → used? x l ≡ true
unfolding used?
used_some x [] e = absurd (let z : ⊥ = omega arith in z)
used_some x (r ∷ l) e = cases (has_in x r)
    (λ t. rw t)
    (λ t. let f = rw t at e in rw t (used_some x l (omega arith)))

clash_none : (l : List Rec) (i : List Id) → ((x : Id) → among? x i ≡ true → used? x l ≡ false) → clash? i l ≡ false
unfolding clash?
clash_none l [] k = refl
clash_none l (x ∷ i) k = rw (k x (rw (same_self x))) (clash_none l i (λ y h. k y (among_more y x i h)))

pub clash_some : (l : List Rec) (x : Id) (i : List Id) → among? x i ≡ true → used? x l ≡ true → clash? i l ≡ true
unfolding clash?
clash_some l x [] e u = false_true e
clash_some l x (y ∷ i) e u = cases (same? x y)
    (λ t. let q = same_is x y t in rw (← q, u))
    (λ t. cases (used? y l) (λ v. rw v) (λ v. rw v (clash_some l x i (rw t at e) u)))

pub apart_yes : (l : List Rec) → ((x : Id) → count (has_in x) l ≤ 1) → true ≡ apart? l
unfolding apart?
apart_yes [] k = refl
apart_yes (r ∷ l) k = rw (clash_none l (inputs r.body) (λ x h. used_none x l (let q = rw h at (k x) in omega arith)))
    (apart_yes l (λ x. let q = k x in omega arith))

pub apart_no : (l : List Rec) (x : Id) → 2 ≤ count (has_in x) l → false ≡ apart? l
unfolding apart?
apart_no [] x e = absurd (let z : ⊥ = omega arith in z)
apart_no (r ∷ l) x e = cases (has_in x r)
    (λ t. let f = rw t at e in rw (clash_some l x (inputs r.body) t (used_some x l (omega arith))))
    (λ t. let f = rw t at e in cases (clash? (inputs r.body) l) (λ v. rw v) (λ v. rw v (apart_no l x (omega arith))))

-- ---- finish numbers by counts
pub distinct_yes : (l : List Rec) → ((m : ℕ) → count (stamped? m) l ≤ 1) → true ≡ distinct? l
unfolding distinct?
distinct_yes [] k = refl
distinct_yes (r ∷ l) k =
    let i = distinct_yes l (λ m. let q = k m in omega arith) in
    cases (holder? r)
    (λ t. rw t i)
    (λ t.
    let q = rw (t, eq-eqb r.finish r.finish refl) at (k r.finish) in
    let z : count (stamped? r.finish) l ≡ 0 = omega arith in
    rw (t, eq-eqb (count (stamped? r.finish) l) 0 z) i)

pub distinct_no : (l : List Rec) (m : ℕ) → 2 ≤ count (stamped? m) l → false ≡ distinct? l
unfolding distinct?
distinct_no [] m e = absurd (let z : ⊥ = omega arith in z)
distinct_no (r ∷ l) m e = cases (stamped? m r)
    (λ t.
    let u = and_true (not (holder? r)) (eqb r.finish m) t in
    let h : holder? r ≡ false = not_held (holder? r) u.0 in
    let q = eqb-true r.finish m u.1 in
    let f = rw t at e in
    rw (h, q, ne_eqb (count (stamped? m) l) 0 (λ z. let y : ⊥ = omega arith in y)))
    (λ t. let f = rw t at e in rw (← (distinct_no l m (omega arith))) (never (holder? r || eqb (count (stamped? r.finish) l) 0)))
  where
    not_held : (h : Bool) → not h ≡ true → h ≡ false
    not_held true e = false_true e
    not_held false e = refl

    never : (a : Bool) → false ≡ (a && false)
    never true = refl
    never false = refl

-- ---- the records, all passed
pub walk_apart : {all : List Rec} {t : List ℕ} → Walk has_in hash_l all [] t → apart? all ≡ true
walk_apart {all} w = sym (apart_yes all (walk_end w))

pub walk_distinct : {all : List Rec} {t : List ℕ} → Walk stamped? hash_n all [] t → distinct? all ≡ true
walk_distinct {all} w = sym (distinct_yes all (walk_end w))

-- ---- how many records have an id
unfoldable pub held_f : Id → ℕ → List Rec → ℕ
held_f x acc l = acc + held_by_value l x

module _ (form : Form) (z : Id) {s : Bytes} {n at i left acc : ℕ} (x : Scan (rec_in_value form) (held_f z) s n at 0 i left acc) where
  pub held_go : {m w j : ℕ} {b : Bool} {y : Seen} → 0 < left → FoundForm form s i m y → j ≡ after_in_value form.hex s i m → b ≡ among? z (list_at id_c y.facts.ins (view form.hex s i) y.at) → w ≡ from_bool b
      → Scan (rec_in_value form) (held_f z) s n at 0 j (left - 1) (acc + w)
  unfolding held_f held_by_value
  held_go {m} {w} {b = b} p r g e f =
      let t = see_in form x p r g in
      let k : w ≡ one (has_in z t.item) = f ∙ one_of b ∙ ap one (e ∙ ap (among? z) t.is.0.ins_list) in
      on x (acc + w) p t (omega arith)

  pub held_end : left ≡ 0 → acc ≡ held_by_value (list_at (rec_in_value form) n s at) z
  unfolding held_f held_by_value
  held_end e = let q = end x e in omega arith

-- ---- the loops over records
module _ (form : Form) {s : Bytes} {n at i left : ℕ} {t : List ℕ} (x : Scan (rec_in_value form) nothing_f s n at tt i left tt) (w : Walk has_in hash_l (list_at (rec_in_value form) n s at) (list_at (rec_in_value form) left s i) t) where
  module _ {m : ℕ} {b : Bool} {y : Seen} {t' : List ℕ} (p : 0 < left) (r : FoundForm form s i m y)
      (g : Passed (λ z. among? z (list_at id_c y.facts.ins (view form.hex s i) y.at)) hash_l (held_by_value (list_at (rec_in_value form) n s at)) t b t') where
    pub apart_go : {j : ℕ} → j ≡ after_in_value form.hex s i m → b ≡ false → Scan (rec_in_value form) nothing_f s n at tt j (left - 1) tt × Walk has_in hash_l (list_at (rec_in_value form) n s at) (list_at (rec_in_value form) (left - 1) s j) t'
    unfolding nothing_f held_by_value
    apart_go {j} e f =
        let u = see_in form x p r e in
        (on x tt p u refl, walk_go has_in hash_l (list_at (rec_in_value form) n s at) u.item (list_at (rec_in_value form) (left - 1) s j) (rw u.list at w) (pass_own (λ z. has_in z u.item) (λ z. ap (among? z) u.is.0.ins_list) g) f)

    pub apart_stop : b ≡ true → false ≡ apart? (list_at (rec_in_value form) n s at)
    unfolding held_by_value
    apart_stop f = let u = g.two f in apart_no (list_at (rec_in_value form) n s at) u.0 u.1

  pub apart_end : left ≡ 0 → true ≡ apart? (list_at (rec_in_value form) n s at)
  apart_end e = apart_yes (list_at (rec_in_value form) n s at) (walk_end (rw (none_left (rec_in_value form) s left i e).0 at w))

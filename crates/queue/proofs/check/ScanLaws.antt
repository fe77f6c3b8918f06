-- Each loop's turn and end, over plain values. Assumes nothing.
use Rattle.std.specs.Prelude.{◌≡◌, refl, Bool, true, false, cond, ◌&&◌, List, ℕ, zero, suc, ◌+◌, ◌-◌, ◌≤◌, ◌<◌, eqb, length, drop, take, get_or}
use Rattle.std.proofs.Common.{ap, sym, ◌∙◌, arith, add-one, drop-cons, eq-eqb, ne_eqb, eqb-true}
use Rattle.std.specs.Int.Bits.{bit_or, or_add_and}
use Rattle.std.proofs.lemmas.Nat.{and_le_l, and_le_r}
use Rattle.std.proofs.lemmas.Bool.{eqb-false}
use Rattle.queue.specs.Codec.{cases}
use Rattle.queue.specs.layout.FrameCodec.{rec_k, rec_c, id_c}
use Rattle.queue.specs.layout.FormsCodec.{form_c, after_in_value, ends_line_value, framed, frame_bad, frame_open, Many, rec_in_value}
use Rattle.queue.specs.bytes.ViewAs.{view}
use Rattle.queue.specs.bytes.ReaderAs.{Fails, Found, whole, list_at, behind}
use Rattle.queue.specs.bytes.ReaderLaws.{none_left, whole_step, whole_bad}
use Rattle.queue.specs.check.RulesAs.{weight, sum}
use Rattle.queue.specs.Areas.{zero?, zero_in}
use Rattle.queue.specs.paper.Records.{Bytes, Id, Rec}
use Rattle.queue.specs.paper.Ids.{cmp_l}
use Rattle.queue.specs.paper.Sound.{among?}
use Rattle.queue.specs.declared.layout.frame.Form.{Form}
use Rattle.queue.specs.declared.layout.frame.Seen.{Seen}
use Rattle.queue.specs.declared.check.rules.Query.{Query}
use Rattle.queue.proofs.layout.TurnLaws.{Scan, here, on, stop, end, FoundForm, FoundRec, see}

-- ---- counts
unfoldable pub sum_from : Query → ℕ → List Rec → ℕ
sum_from q acc l = acc + sum q l

module _ (hex : Bool) (q : Query) {s : Bytes} {n at i left acc : ℕ} (x : Scan (form_c hex rec_c) (sum_from q) s n at 0 i left acc) where
  pub tally_go : {m w j : ℕ} {y : Seen} → 0 < left → FoundRec hex s i m y → j ≡ after_in_value hex s i m → w ≡ weight q y.facts
      → Scan (form_c hex rec_c) (sum_from q) s n at 0 j (left - 1) (acc + w)
  unfolding sum_from sum
  tally_go {m} {w} p r g e = let t = see hex x p r g in let f = e ∙ ap (weight q) t.is.0.facts in on x (acc + w) p t (omega arith)

  pub tally_end : left ≡ 0 → acc ≡ sum q (list_at (form_c hex rec_c) n s at)
  unfolding sum_from sum
  tally_end z = let e = end x z in omega arith

-- ---- frames
pub record Framing (form : Form) (s : Bytes) (n at i left : ℕ) : Type 0 where
  pub up : at ≤ i
  pub within : i ≤ length s
  pub all : whole (rec_in_value form) left s i ≡ whole (rec_in_value form) n s at
  pub rest : behind (rec_in_value form) left s i ≡ behind (rec_in_value form) n s at

module _ {form : Form} {s : Bytes} {n at i left : ℕ} (x : Framing form s n at i left) (p : 0 < left) where
  -- no record stands there
  pub frames_short : Fails (rec_k form.kind) (view form.hex s i) 0 → whole (rec_in_value form) n s at ≡ false
  frames_short f = sym x.all ∙ whole_bad left x.within p (frame_bad form.hex f)

  module _ {m : ℕ} {y : Seen} (r : FoundForm form s i m y) {b : Bool} (e : b ≡ ends_line_value form.hex s i m) where
    pub frames_line : b ≡ false → whole (rec_in_value form) n s at ≡ false
    frames_line f = sym x.all ∙ whole_bad left x.within p (frame_open form.hex r (sym e ∙ f))

    pub frames_go : {j : ℕ} → b ≡ true → j ≡ after_in_value form.hex s i m → Framing form s n at j (left - 1)
    frames_go {j} f g =
        let u = framed form.hex x.within r (sym e ∙ f) in
        let st = whole_step left p u in
        rw g (record { up = omega (arith, x.up, u.up); within = u.within; all = sym st.0 ∙ x.all; rest = sym st.1 ∙ x.rest })

pub frames_end : {form : Form} {s : Bytes} {n at i left : ℕ} → Framing form s n at i left → left ≡ 0 → Many (rec_in_value form) s at n i
frames_end {form} {s} {n} {at} {i} {left} x z = let u = none_left (rec_in_value form) s left i z in record { is = sym x.all ∙ u.1; end = sym u.2 ∙ x.rest; up = x.up; within = x.within }

-- ---- searches: no state
unfoldable pub nothing_f : Unit {0} → List Rec → Unit {0}
nothing_f u l = u

unfoldable pub among_f : Id → Unit {0} → List Id → Bool
among_f x u l = among? x l

module _ (z : Id) {v : Bytes} {n at i left : ℕ} (x : Scan id_c (among_f z) v n at tt i left tt) where
  pub among_go : {next : ℕ} {y : Id} → 0 < left → Found id_c v i next (λ w. w ≡ y) → (cmp_l z y ≡ 1 → ⊥) → Scan id_c (among_f z) v n at tt next (left - 1) tt
  unfolding among_f
  among_go h r e = let t = here x h r in on x tt h t (rw (t.is, ne_eqb _ _ e))

  pub among_stop : {next : ℕ} {y : Id} → 0 < left → Found id_c v i next (λ w. w ≡ y) → cmp_l z y ≡ 1 → true ≡ among? z (list_at id_c n v at)
  unfolding among_f
  among_stop h r e = let t = here x h r in stop x t (rw (t.is, eq-eqb _ _ e))

  pub among_end : left ≡ 0 → false ≡ among? z (list_at id_c n v at)
  unfolding among_f
  among_end e = end x e

-- ---- zeros
-- bits of two numbers together: none exactly where neither has any
pub or_zero : (a b : ℕ) → eqb (bit_or a b) 0 ≡ (eqb a 0 && eqb b 0)
or_zero a b =
    let s = or_add_and a b in
    let l = and_le_l a b in
    let r = and_le_r a b in
    cases (eqb (bit_or a b) 0)
    (λ t. let z = eqb-true (bit_or a b) 0 t in
    let a₀ : a ≡ 0 = omega arith in
    let b₀ : b ≡ 0 = omega arith in
    rw (t, eq-eqb a 0 a₀, eq-eqb b 0 b₀) refl)
    (λ t. let z = eqb-false (bit_or a b) 0 t in cases (eqb a 0)
    (λ u. let x = eqb-true a 0 u in cases (eqb b 0)
    (λ v. let y = eqb-true b 0 v in absurd (z (omega arith)))
    (λ v. rw (t, u, v) refl))
    (λ u. rw (t, u) refl))

zero_cut : (s : Bytes) (i to : ℕ) → i < to → to ≤ length s → zero? (take (to - i) (drop i s)) ≡ cond (eqb (get_or s i 0) 0) (zero? (take (to - (i + 1)) (drop (i + 1) s))) false
unfolding zero?
zero_cut s i to h k = let e : to - i ≡ suc (to - (i + 1)) = omega arith in rw (drop-cons s i 0 (omega arith), e, add-one)

and_zero : (a b z : Bool) → (a && cond b z false) ≡ ((a && b) && z)
and_zero true true z = refl
and_zero true false z = refl
and_zero false b z = refl

pub zero_turn : (s : Bytes) (i to : ℕ) (ok : Bool) → i < to → to ≤ length s → (ok && zero? (take (to - i) (drop i s))) ≡ ((ok && eqb (get_or s i 0) 0) && zero? (take (to - (i + 1)) (drop (i + 1) s)))
zero_turn s i to ok h k = ap (λ z. ok && z) (zero_cut s i to h k) ∙ and_zero ok _ _

and_one : (a : Bool) → (a && true) ≡ a
and_one true = refl
and_one false = refl

pub zero_over : (s : Bytes) (i to : ℕ) (ok : Bool) → to ≤ i → (ok && zero? (take (to - i) (drop i s))) ≡ ok
unfolding zero?
zero_over s i to ok h = let z : to - i ≡ 0 = omega arith in rw z (and_one ok)

-- the zeros of a part are those of its two parts
pub zero_parts : (s : Bytes) (i to n : ℕ) → i + n ≤ to → to ≤ length s → zero_in s i to ≡ (zero_in s i (i + n) && zero_in s (i + n) to)
unfolding zero?
zero_parts s i to zero h k = let z : i + 0 - i ≡ 0 = omega arith in let e : i + 0 ≡ i = omega arith in rw (z, e)
zero_parts s i to (suc n) h k =
    let e : i + suc n ≡ i + 1 + n = omega arith in
    rw (e, zero_cut s i to (omega arith) k, zero_cut s i (i + 1 + n) (omega arith) (omega arith), zero_parts s (i + 1) to n (omega arith) k) (sym (over (eqb (get_or s i 0) 0) _ _))
  where
    over : (b x y : Bool) → (cond b x false && y) ≡ cond b (x && y) false
    over true x y = refl
    over false x y = refl

-- two parts side by side
abbrev pub zero_two : Bytes → ℕ → ℕ → ℕ → Bool
zero_two s from n i = zero_in s (from + i) (from + n) && zero_in s (from + n + i) (from + n + n)

pub two_start : (s : Bytes) (from n : ℕ) → (true && zero_two s from n 0) ≡ (zero_in s from (from + n) && zero_in s (from + n) (from + n + n))
two_start s from n = let e : from + 0 ≡ from = omega arith in let f : from + n + 0 ≡ from + n = omega arith in rw (e, f)

pub two_go : (s : Bytes) (from n i bits : ℕ) → i < n → from + n + n ≤ length s → (eqb bits 0 && zero_two s from n i) ≡ (eqb (bit_or bits (bit_or (get_or s (from + i) 0) (get_or s (from + n + i) 0))) 0 && zero_two s from n (i + 1))
two_go s from n i bits h k =
    let e : from + (i + 1) ≡ from + i + 1 = omega arith in
    let f : from + n + (i + 1) ≡ from + n + i + 1 = omega arith in
    rw (e, f, zero_cut s (from + i) (from + n) (omega arith) (omega arith), zero_cut s (from + n + i) (from + n + n) (omega arith) k, or_zero bits (bit_or (get_or s (from + i) 0) (get_or s (from + n + i) 0)), or_zero (get_or s (from + i) 0) (get_or s (from + n + i) 0))
    (shuffle (eqb bits 0) (eqb (get_or s (from + i) 0) 0) (eqb (get_or s (from + n + i) 0) 0) _ _)
  where
    shuffle : (p x y a b : Bool) → (p && (cond x a false && cond y b false)) ≡ ((p && (x && y)) && (a && b))
    shuffle true true true a b = refl
    shuffle true true false true b = refl
    shuffle true true false false b = refl
    shuffle true false y a b = refl
    shuffle false x y a b = refl

pub two_end : (s : Bytes) (from n i bits : ℕ) → n ≤ i → (eqb bits 0 && zero_two s from n i) ≡ eqb bits 0
unfolding zero?
two_end s from n i bits h =
    let e : from + n - (from + i) ≡ 0 = omega arith in
    let f : from + n + n - (from + n + i) ≡ 0 = omega arith in
    rw (e, f) (and_one (eqb bits 0))

pub zero_three : (s : Bytes) (from a n to : ℕ) {x y z : Bool} → from ≤ a → a + n + n ≤ to → to ≤ length s → x ≡ zero_in s from a → y ≡ (zero_in s a (a + n) && zero_in s (a + n) (a + n + n)) → z ≡ zero_in s (a + n + n) to → (x && (y && z)) ≡ zero_in s from to
zero_three s from a n to h k l e f g =
    let i : from + (a - from) ≡ a = omega arith in
    let j : a + (n + n) ≡ a + n + n = omega arith in
    let u = zero_parts s a (a + n + n) n (omega arith) (omega arith) in
    let v = rw j at (zero_parts s a to (n + n) (omega arith) l) in
    let w = rw i at (zero_parts s from to (a - from) (omega arith) l) in
    rw (e, f, g, w, v, u)

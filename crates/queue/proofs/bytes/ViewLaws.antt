-- The laws of the loops over a view: a number, a copy, an order. Assumes nothing.
use Rattle.std.specs.Prelude.{◌≡◌, refl, Bool, true, false, ◌&&◌, List, ◌∷◌, ℕ, zero, suc, ◌+◌, ◌-◌, ◌*◌, ◌≤◌, ◌<◌, ◌^◌, ltb, eqb, length, get_or, take, drop, set}
use Rattle.std.proofs.Common.{sym, ap, ◌∙◌, arith, pow-suc, add-zero, add-one, lit<, length-drop, drop_of_length-le, take-suc-set, take-suc, get_or-drop, take_all, drop-cons, lt-ltb, le-ltb, ltb-true, ltb-false, eq-eqb, ne_eqb}
use Rattle.std.proofs.Math.Nat.{pow-le-pow_right}
use Rattle.std.proofs.Math.Numerals.{unary_clauses}
use Rattle.queue.specs.Basics.{and_assoc}
use Rattle.queue.specs.Codec.{cases}
use Rattle.queue.specs.bytes.Parts.{part}
use Rattle.queue.specs.paper.Ids.{cmp_l, same?}
use Rattle.queue.specs.bytes.ReaderLaws.{be_at, SmallAt}

-- ---- numbers
pub one_more : (n : ℕ) (v : List ℕ) (at : ℕ) → be_at (n + 1) v at ≡ be_at n v at * 256 + get_or v (at + n) 0
unfolding be_at
one_more n v at = rw add-one

pub grows : (n : ℕ) → 256 ^ (n + 1) ≡ 256 ^ n * 256
grows n = rw (add-one, pow-suc)

pub room : (n : ℕ) → n + 1 ≤ 8 → 256 ^ (n + 1) ≤ 2 ^ 64
room n h = pow-le-pow_right (lit< tt) h

pub halves : (v : List ℕ) (at : ℕ) → be_at 8 v at ≡ be_at 4 v at * 4294967296 + be_at 4 v (at + 4)
unfolding be_at
halves v at =
    let a : at + 4 + 0 ≡ at + 4 = omega arith in
    let b : at + 4 + 1 ≡ at + 5 = omega arith in
    let c : at + 4 + 2 ≡ at + 6 = omega arith in
    let d : at + 4 + 3 ≡ at + 7 = omega arith in
    rw (a, b, c, d) (omega arith)

pub by_halves : {n : ℕ} (v : List ℕ) (at : ℕ) {h l : ℕ} → n ≡ 8 → h ≡ be_at 4 v at → l ≡ be_at 4 v (at + 4) → h < 256 ^ 4 → l < 256 ^ 4 → (h * 4294967296 + l ≡ be_at n v at) × (h * 4294967296 + l < 256 ^ n)
by_halves v at {h} {l} e p q a b =
    let a₁ : h < 4294967296 = a in
    let b₁ : l < 4294967296 = b in
    let c : h * 4294967296 + l < 18446744073709551616 = omega (arith, a₁, b₁) in
    (rw e (omega (arith, halves v at, p, q)), rw e c)

pub half_small : {h : ℕ} → h < 256 ^ 4 → h < 4294967296
half_small a = a

-- ---- ids
pub copy_step : (s r : List ℕ) (at i b : ℕ) → i < length r → at + i < length s → b ≡ get_or s (at + i) 0 → take i r ≡ part i s at → take (i + 1) (set r i b) ≡ part (i + 1) s at
unfolding part
copy_step s r at i b h l q e =
    let l' : i < length (drop at s) = simp length-drop (omega arith) in
    rw add-one (cc (take-suc-set r i b h, take-suc (drop at s) i 0 l', get_or-drop at s i 0))

part_cons : (n : ℕ) (v : List ℕ) (at : ℕ) → at < length v → part (suc n) v at ≡ get_or v at 0 ∷ part n v (suc at)
unfolding part
part_cons n v at h = rw (drop-cons v at 0 h)

-- a comparison of n bytes of v from a on with as many of w from b on, at the byte i
module _ (v w : List ℕ) (a b i n : ℕ) where
  pub at_cons : i < n → a + i < length v → part (n - i) v (a + i) ≡ get_or v (a + i) 0 ∷ part (n - (i + 1)) v (a + (i + 1))
  at_cons h l =
      let e : n - i ≡ suc (n - (i + 1)) = omega arith in
      let f : suc (a + i) ≡ a + (i + 1) = omega arith in
      rw (e, ← f) (part_cons (n - (i + 1)) v (a + i) l)

module _ (v w : List ℕ) (a b i n : ℕ) (h : i < n) (lv : a + i < length v) (lw : b + i < length w) {x y : ℕ} (p : x ≡ get_or v (a + i) 0) (q : y ≡ get_or w (b + i) 0) where
  pub cmp_less : x < y → cmp_l (part (n - i) v (a + i)) (part (n - i) w (b + i)) ≡ 0
  unfolding cmp_l
  cmp_less t = rw (at_cons v w a b i n h lv, at_cons w v b a i n h lw, ← p, ← q) (simp (lt-ltb _ _ t))

  pub cmp_more : y < x → cmp_l (part (n - i) v (a + i)) (part (n - i) w (b + i)) ≡ 2
  unfolding cmp_l
  cmp_more t = let t' : y ≤ x = omega arith in rw (at_cons v w a b i n h lv, at_cons w v b a i n h lw, ← p, ← q) (simp (le-ltb _ _ t', lt-ltb _ _ t))

  pub cmp_same : y ≤ x → x ≤ y → cmp_l (part (n - i) v (a + i)) (part (n - i) w (b + i)) ≡ cmp_l (part (n - (i + 1)) v (a + (i + 1))) (part (n - (i + 1)) w (b + (i + 1)))
  unfolding cmp_l
  cmp_same t u = rw (at_cons v w a b i n h lv, at_cons w v b a i n h lw, ← p, ← q) (simp (le-ltb _ _ t, le-ltb _ _ u))

pub cmp_start : (v w : List ℕ) (a b n : ℕ) → cmp_l (part (n - 0) v (a + 0)) (part (n - 0) w (b + 0)) ≡ cmp_l (part n v a) (part n w b)
cmp_start v w a b n = simp unary_clauses

pub cmp_end : (v w : List ℕ) (a b i n : ℕ) → n ≤ i → cmp_l (part (n - i) v (a + i)) (part (n - i) w (b + i)) ≡ 1
unfolding cmp_l part
cmp_end v w a b i n h = let e : n - i ≡ 0 = omega arith in rw e

-- words of j bytes at the byte i, as numbers: their order is that of their bytes
next_byte : (j : ℕ) (v : List ℕ) (a i : ℕ) → be_at (suc j) v (a + i) ≡ be_at j v (a + i) * 256 + get_or v (a + (i + j)) 0
unfolding be_at
next_byte j v a i = let e : a + i + j ≡ a + (i + j) = omega arith in rw (← e)

pub record InWords (v w : List ℕ) (a b i n j : ℕ) : Type 0 where
  pub less : be_at j v (a + i) < be_at j w (b + i) → cmp_l (part (n - i) v (a + i)) (part (n - i) w (b + i)) ≡ 0
  pub more : be_at j w (b + i) < be_at j v (a + i) → cmp_l (part (n - i) v (a + i)) (part (n - i) w (b + i)) ≡ 2
  pub same : be_at j v (a + i) ≡ be_at j w (b + i) → cmp_l (part (n - i) v (a + i)) (part (n - i) w (b + i)) ≡ cmp_l (part (n - (i + j)) v (a + (i + j))) (part (n - (i + j)) w (b + (i + j)))

pub in_words : (v w : List ℕ) → SmallAt v → SmallAt w → (a b i n : ℕ) → a + n ≤ length v → b + n ≤ length w → (j : ℕ) → i + j ≤ n → InWords v w a b i n j
unfolding be_at
in_words v w sv sw a b i n lv lw zero h = record {
  less = λ t. absurd (let y : ⊥ = omega arith in y);
  more = λ t. absurd (let y : ⊥ = omega arith in y);
  same = λ t. rw add-zero refl;
}
in_words v w sv sw a b i n lv lw (suc j) h =
    let q = in_words v w sv sw a b i n lv lw j (omega arith) in
    let h₁ : i + j < n = omega arith in
    let lv₁ : a + (i + j) < length v = omega arith in
    let lw₁ : b + (i + j) < length w = omega arith in
    let c = sv (a + (i + j)) lv₁ in
    let d = sw (b + (i + j)) lw₁ in
    let x = next_byte j v a i in
    let y = next_byte j w b i in
    let k : i + suc j ≡ i + j + 1 = omega arith in
    record {
      less = λ t. cases (ltb (be_at j v (a + i)) (be_at j w (b + i)))
          (λ u. q.less (ltb-true _ _ u))
          (λ u. let g = ltb-false (be_at j v (a + i)) (be_at j w (b + i)) u in let e : be_at j v (a + i) ≡ be_at j w (b + i) = omega (arith, x, y, t, c, d, g) in q.same e ∙ cmp_less v w a b (i + j) n h₁ lv₁ lw₁ refl refl (omega (arith, x, y, t, e)));
      more = λ t. cases (ltb (be_at j w (b + i)) (be_at j v (a + i)))
          (λ u. q.more (ltb-true _ _ u))
          (λ u. let g = ltb-false (be_at j w (b + i)) (be_at j v (a + i)) u in let e : be_at j v (a + i) ≡ be_at j w (b + i) = omega (arith, x, y, t, c, d, g) in q.same e ∙ cmp_more v w a b (i + j) n h₁ lv₁ lw₁ refl refl (omega (arith, x, y, t, e)));
      same = λ t.
          let e : be_at j v (a + i) ≡ be_at j w (b + i) = omega (arith, x, y, t, c, d) in
          let f : get_or v (a + (i + j)) 0 ≡ get_or w (b + (i + j)) 0 = omega (arith, x, y, t, e) in
          rw k (q.same e ∙ cmp_same v w a b (i + j) n h₁ lv₁ lw₁ refl refl (omega (arith, f)) (omega (arith, f)));
    }

-- the same for the word k of two ids that stand in v and w
module _ (v w : List ℕ) (a b k : ℕ) {x y : ℕ} (sv : SmallAt v) (sw : SmallAt w) (h : k < 4) (lv : a + 32 ≤ length v) (lw : b + 32 ≤ length w) (p : x ≡ be_at 8 v (a + 8 * k)) (q : y ≡ be_at 8 w (b + 8 * k)) where
  words : InWords v w a b (8 * k) 32 8
  words = in_words v w sv sw a b (8 * k) 32 lv lw 8 (omega arith)

  pub words_less : x < y → cmp_l (part (32 - 8 * k) v (a + 8 * k)) (part (32 - 8 * k) w (b + 8 * k)) ≡ 0
  words_less e = words.less (omega arith)

  pub words_more : y < x → cmp_l (part (32 - 8 * k) v (a + 8 * k)) (part (32 - 8 * k) w (b + 8 * k)) ≡ 2
  words_more e = words.more (omega arith)

  pub words_same : x ≤ y → y ≤ x → cmp_l (part (32 - 8 * k) v (a + 8 * k)) (part (32 - 8 * k) w (b + 8 * k)) ≡ cmp_l (part (32 - 8 * (k + 1)) v (a + 8 * (k + 1))) (part (32 - 8 * (k + 1)) w (b + 8 * (k + 1)))
  words_same d u = let e : 8 * (k + 1) ≡ 8 * k + 8 = omega arith in rw e (words.same (omega arith))

-- the first word decides where it differs
module _ (v w : List ℕ) (a b : ℕ) {x y : ℕ} (sv : SmallAt v) (sw : SmallAt w) (lv : a + 32 ≤ length v) (lw : b + 32 ≤ length w) (p : x ≡ be_at 8 v a) (q : y ≡ be_at 8 w b) where
  first_of : (u : List ℕ) (c : ℕ) → be_at 8 u c ≡ be_at 8 u (c + 8 * 0)
  first_of u c = let e : c ≡ c + 8 * 0 = omega arith in ap (be_at 8 u) e

  pub first_less : x < y → 0 ≡ cmp_l (part 32 v a) (part 32 w b)
  first_less h = sym (words_less v w a b 0 sv sw (omega arith) lv lw (p ∙ first_of v a) (q ∙ first_of w b) h) ∙ cmp_start v w a b 32

  pub first_more : y < x → 2 ≡ cmp_l (part 32 v a) (part 32 w b)
  first_more h = sym (words_more v w a b 0 sv sw (omega arith) lv lw (p ∙ first_of v a) (q ∙ first_of w b) h) ∙ cmp_start v w a b 32

-- an id by value
pub id_whole : (x : List ℕ) → length x ≡ 32 → part 32 x 0 ≡ x
unfolding part
id_whole x h = take_all 32 x (omega arith)

-- ---- the same bytes, looked at without a way out
same_cons : (x y : ℕ) (xs ys : List ℕ) → same? (x ∷ xs) (y ∷ ys) ≡ (eqb x y && same? xs ys)
unfolding cmp_l
same_cons x y xs ys = cases (ltb x y)
    (λ t. let h = ltb-true x y t in rw (t, ne_eqb x y (λ e. omega arith)) refl)
    (λ t. let h = ltb-false x y t in cases (ltb y x)
    (λ u. let k = ltb-true y x u in rw (t, u, ne_eqb x y (λ e. omega arith)) refl)
    (λ u. let k = ltb-false y x u in rw (t, u, eq-eqb x y (omega arith)) refl))

and_one : (a : Bool) → (a && true) ≡ a
and_one true = refl
and_one false = refl

pub same_turn : (a b : List ℕ) (i : ℕ) (ok : Bool) {ok' : Bool} → i < length a → i < length b → ok' ≡ (ok && eqb (get_or a i 0) (get_or b i 0))
    → (ok' && same? (drop (i + 1) a) (drop (i + 1) b)) ≡ (ok && same? (drop i a) (drop i b))
same_turn a b i ok h k e =
    let s = same? (drop (suc i) a) (drop (suc i) b) in
    rw (add-one i, e, drop-cons a i 0 h, drop-cons b i 0 k)
    (and_assoc ok (eqb (get_or a i 0) (get_or b i 0)) s ∙ ap (λ (z : Bool). ok && z) (sym (same_cons (get_or a i 0) (get_or b i 0) (drop (suc i) a) (drop (suc i) b))))

pub same_over : (a b : List ℕ) (i : ℕ) (ok : Bool) → length a ≤ i → length b ≤ i → (ok && same? (drop i a) (drop i b)) ≡ ok
unfolding cmp_l
same_over a b i ok h k = rw (drop_of_length-le a h, drop_of_length-le b k) (and_one ok)

-- Numbers of rows, which name some of 16 records, and the bits that come of one. Assumes nothing.
use Rattle.std.specs.Prelude.{◌≡◌, refl, Bool, true, false, not, ◌&&◌, ◌||◌, List, ℕ, zero, suc, ◌+◌, ◌-◌, ◌*◌, ◌/◌, ◌%◌, ◌^◌, ◌≤◌, ◌<◌, ltb, eqb, length, get_or, set}
use Rattle.std.proofs.Common.{ap, sym, ◌∙◌, arith, mod-lt, div-add-mod', mul-le-mul, pow_pos, length-set, eqb-true, eq-eqb, ne_eqb, ltb-true, ltb-false, mod-eq_of_lt, pow_mono}
use Rattle.std.proofs.Math.Nat.{div-div-eq-div-mul, div-eq_of_lt}
use Rattle.std.proofs.Math.Arith.{digits_div, digits_mod}
use Rattle.std.proofs.Math.Pow.{pow-lt}
use Rattle.std.specs.Int.Bits.{bit_or, or_self, or_zero_r}
use Rattle.std.proofs.lemmas.Bool.{eqb-false}
use Rattle.std.proofs.lemmas.Nat.{or_shr, or_mod}
use Rattle.queue.specs.Basics.{and_or}
use Rattle.queue.specs.Codec.{cases}
use Rattle.queue.specs.check.SuspectsAs.{no_r}
use Rattle.queue.specs.read.LinksAs.{bit_l, bit_at, group_mask_value, names, Others, Joined, in_line}
use Rattle.queue.proofs.read.LinksBitLaws.{and_yes, bits_or, bit_low, bit_sum, bit_high, bit_under, bit_up, bit_minus, same_place, set_word, joined_none, bit_is}

sixteen : (j : ℕ) → j % 16 < 16
sixteen j = mod-lt j (omega arith)

pub no_is : (x : ℕ) → x % 4294967296 ≡ no_r x
unfolding no_r
no_is x = refl

-- ---- the number of one record
power_small : (j : ℕ) → 2 ^ (j % 16) < 65536
power_small j = pow-lt {i = j % 16} {j = 16} (sixteen j)

pub mask_pos : (j : ℕ) → 0 < group_mask_value j
unfolding group_mask_value
mask_pos j = let z = pow_pos (j % 16) in omega arith

pub mask_is : (j : ℕ) {b : ℕ} → b ≡ 2 ^ (j % 16) → j < 2048 → (j / 16 * 65536 + b ≡ group_mask_value j) × (j / 16 * 65536 + b < 4294967296)
unfolding group_mask_value
mask_is j e h = (ap (λ (b : ℕ). j / 16 * 65536 + b) e, (let z = power_small j in let d = div-add-mod' j 16 in omega arith))

pub names_mask : (j i : ℕ) → names (group_mask_value j) i ≡ eqb i j
unfolding names group_mask_value
names_mask j i = rw (digits_div (j / 16) (power_small j), bit_sum 16 (j / 16) (j % 16) (i % 16) (sixteen j) (sixteen i)) (cases (eqb (j / 16) (i / 16))
    (λ t. rw t (same_place 16 i j (sym (eqb-true (j / 16) (i / 16) t))))
    (λ t. rw t (sym (ne_eqb i j (λ e. eqb-false (j / 16) (i / 16) t (ap (λ (x : ℕ). x / 16) (sym e)))))))

pub names_none : (j : ℕ) → names 0 j ≡ false
unfolding names
names_none j = rw (bit_high 0 0 (j % 16) (omega arith) (omega arith)) (and_no (eqb 0 (j / 16)))
  where
    and_no : (a : Bool) → (a && false) ≡ false
    and_no true = refl
    and_no false = refl

-- two numbers of one group together
pub names_or : (a b j : ℕ) → a / 65536 ≡ b / 65536 → names (bit_or a b) j ≡ (names a j || names b j)
unfolding names
names_or a b j e =
    let g : bit_or a b / 65536 ≡ a / 65536 = or_shr a b 16 ∙ ap (bit_or (a / 65536)) (sym e) ∙ or_self (a / 65536) in
    rw (g, ← e, bits_or a b (j % 16)) (and_or (eqb (a / 65536) (j / 16)) (bit_l a (j % 16)) (bit_l b (j % 16)))

-- a number joined to a row
pub join_number : (w n : ℕ) → n < 4294967296 → no_r (bit_or w n) ≡ bit_or (no_r w) n
unfolding no_r
join_number w n h = or_mod w n 32 ∙ ap (bit_or (w % 4294967296)) (mod-eq_of_lt h)

pub join_place : (w n : ℕ) → n < 4294967296 → bit_or w n / 4294967296 ≡ w / 4294967296
join_place w n h = or_shr w n 32 ∙ ap (bit_or (w / 4294967296)) (div-eq_of_lt h) ∙ or_zero_r (w / 4294967296)

-- ---- all but one
pub others_sub : (m b : ℕ) → (m / b % 2 ≡ 0 → ⊥) → b ≤ m
others_sub m b h = cases (ltb m b) (λ t. absurd (h (ap (λ (q : ℕ). q % 2) (div-eq_of_lt (ltb-true m b t))))) (λ t. ltb-false m b t)

module _ (n row : ℕ) where
  low : (j : ℕ) → bit_l (n % 65536) (j % 16) ≡ bit_l n (j % 16)
  low j = bit_low 16 n (j % 16) (sixteen j)

  choose : (r : ℕ) → ((j : ℕ) → n / 65536 ≡ j / 16 → bit_l r (j % 16) ≡ (bit_l n (j % 16) && not (eqb j row))) → (j : ℕ) → (eqb (n / 65536) (j / 16) && bit_l r (j % 16)) ≡ (names n j && not (eqb j row))
  unfolding names
  choose r f j = cases (eqb (n / 65536) (j / 16)) (λ t. rw t (f j (eqb-true _ _ t))) (λ t. rw t)

  pub others_far : {r : ℕ} → r ≡ n % 65536 → (row / 16 ≡ n / 65536 → ⊥) → Others n row r
  others_far {r} e far = record {
    small = rw e (mod-lt n (omega arith));
    is = choose r (λ j g. rw (e, low j, ne_eqb j row (λ q. far (ap (λ (x : ℕ). x / 16) (sym q) ∙ sym g))) (and_yes (bit_l n (j % 16))));
  }

  module _ {m b : ℕ} (e : m ≡ n % 65536) (f : b ≡ 2 ^ (row % 16)) where
    own_bit : (q : ℕ) → m / b % 2 ≡ q → eqb q 1 ≡ bit_l m (row % 16)
    own_bit q h = ap (λ (x : ℕ). eqb x 1) (sym h) ∙ ap (λ (x : ℕ). eqb (m / x % 2) 1) f ∙ bit_is m (row % 16)

    pub others_none : m / b % 2 ≡ 0 → Others n row m
    others_none h = record {
      small = rw e (mod-lt n (omega arith));
      is = choose m (λ j g. cases (eqb j row)
          (λ t. rw (t, eqb-true j row t, ← (own_bit 0 h)) (sym (and_last (bit_l n (row % 16)))))
          (λ t. rw (t, e, low j) (and_yes (bit_l n (j % 16)))));
    }
      where
        and_last : (a : Bool) → (a && false) ≡ false
        and_last true = refl
        and_last false = refl

    pub others_but : {r : ℕ} → row / 16 ≡ n / 65536 → (m / b % 2 ≡ 0 → ⊥) → r ≡ m - b → Others n row r
    others_but {r} k h q =
        let one : m / b % 2 ≡ 1 = two (m / b % 2) (mod-lt (m / b) (omega arith)) h in
        record {
          small = rw (q, e) (let z = mod-lt n (let p : 0 < 65536 = omega arith in p) in omega arith);
          is = choose r (λ j g. ap (λ (v : ℕ). bit_l v (j % 16)) (q ∙ ap (λ (v : ℕ). m - v) f) ∙ bit_minus (row % 16) m (sym (own_bit 1 one)) (j % 16)
              ∙ both (ap (λ (v : ℕ). bit_l v (j % 16)) e ∙ low j) (same_place 16 j row (sym g ∙ sym k)));
        }
      where
        both : {a a' b b' : Bool} → a ≡ a' → b ≡ b' → (a && not b) ≡ (a' && not b')
        both u v = cc

        two : (x : ℕ) → x < 2 → (x ≡ 0 → ⊥) → x ≡ 1
        two zero g h = absurd (h refl)
        two (suc zero) g h = refl
        two (suc (suc x)) g h = absurd (let z : ⊥ = omega arith in z)

-- ---- the bits of a group in their word
quarter : (j g : ℕ) → g ≡ j / 16 → j / 64 ≡ g / 4
quarter j g e = sym (div-div-eq-div-mul j 16 4) ∙ ap (λ (x : ℕ). x / 4) (sym e)

spot : (g y j : ℕ) → y < 65536 → (eqb (j / 64) (g / 4) && bit_l (y * 2 ^ (g % 4 * 16)) (j % 64)) ≡ (eqb g (j / 16) && bit_l y (j % 16))
spot g y j small = cases (eqb g (j / 16))
    (λ t.
    let e = eqb-true g (j / 16) t in
    rw (t, eq-eqb (j / 64) (g / 4) (quarter j g e), in_word e) (bit_up (g % 4 * 16) y (j % 16)))
    (λ t. rw t (cases (eqb (j / 64) (g / 4))
    (λ u. rw u (empty (eqb-false g (j / 16) t) (eqb-true (j / 64) (g / 4) u)))
    (λ u. rw u)))
  where
    in_word : g ≡ j / 16 → j % 64 ≡ g % 4 * 16 + j % 16
    in_word e =
        let d : j ≡ g / 4 * 64 + (g % 4 * 16 + j % 16) = omega (arith, div-add-mod' j 16, div-add-mod' g 4, e) in
        ap (λ (x : ℕ). x % 64) d ∙ digits_mod (g / 4) (let z : g % 4 * 16 + j % 16 < 64 = omega (arith, sixteen j, mod-lt g (let q : 0 < 4 = omega arith in q)) in z)

    empty : (g ≡ j / 16 → ⊥) → j / 64 ≡ g / 4 → bit_l (y * 2 ^ (g % 4 * 16)) (j % 64) ≡ false
    empty n e = cases (ltb (j % 64) (g % 4 * 16))
        (λ t. bit_under (g % 4 * 16) y (j % 64) (ltb-true _ _ t))
        (λ t.
        let h = ltb-false (j % 64) (g % 4 * 16) t in
        let k = j % 64 - g % 4 * 16 in
        ap (bit_l (y * 2 ^ (g % 4 * 16))) (let z : j % 64 ≡ g % 4 * 16 + k = omega arith in z) ∙ bit_up (g % 4 * 16) y k ∙ cases (ltb k 16)
        (λ u.
        let l = ltb-true k 16 u in
        let d : j ≡ g * 16 + k = omega (arith, div-add-mod' j 64, div-add-mod' g 4, e) in
        absurd (n (sym (ap (λ (x : ℕ). x / 16) d ∙ digits_div g l))))
        (λ u. bit_high 16 y k small (ltb-false k 16 u)))

-- ---- one row's bits
module _ (bits : List ℕ) (w start row x : ℕ) (found : Bool) (e : start ≡ row * w) (fits : start + w ≤ length bits) where
  abbrev row_new : ℕ → ℕ → Bool
  row_new i j = (found && names (no_r x) j) && in_line row i j

  pub row_off : found ≡ false → Joined w bits bits row_new
  row_off u = joined_none (λ i j _. rw u)

  pub row_wide : {n g a : ℕ} → n ≡ no_r x → g ≡ n / 65536 → a ≡ g / 4 → w ≤ a → Joined w bits bits row_new
  unfolding names
  row_wide {n} {g} {a} m f q h = joined_none (λ i j k. rw (ne_eqb (no_r x / 65536) (j / 16) (λ z.
      let o : j / 64 ≡ a = quarter j g (f ∙ ap (λ (y : ℕ). y / 65536) m ∙ z) ∙ sym q in
      let v : j < w * 64 = omega arith in
      let u : ⊥ = omega (arith, o, div-add-mod' j 64, h) in u)) (and_no found (in_line row i j)))
    where
      and_no : (a b : Bool) → ((a && false) && b) ≡ false
      and_no true b = refl
      and_no false b = refl

  pub row_set : {n g a p y c z : ℕ} {bits' : List ℕ} → n ≡ no_r x → found ≡ true → g ≡ n / 65536 → a ≡ g / 4 → a < w → Others n row y → p ≡ start + a → c ≡ g % 4 * 16 → z ≡ 2 ^ c
      → bits' ≡ set bits p (bit_or (get_or bits p 0) (y * z)) → Joined w bits bits' row_new
  row_set {n} {g} {a} {p} {y} {c} {z} {bits'} m t f q h o at d k is =
      let inr : row * w + w ≤ length bits = rw e at fits in
      let b : bits' ≡ set bits (row * w + a) (bit_or (get_or bits (row * w + a) 0) (y * 2 ^ (g % 4 * 16))) = is ∙ rw (at, e, k, d) in
      record {
        size = ap length b ∙ length-set bits (row * w + a) _;
        is = λ i j _ l. ap (λ (v : List ℕ). bit_at v w i j) b ∙ set_word bits w row a inr h (y * 2 ^ (g % 4 * 16)) i j l ∙ ap (λ (v : Bool). bit_at bits w i j || v) (new_is i j);
      }
    where
      swap : (a b c : Bool) → (a && (b && c)) ≡ (b && (a && c))
      swap true b c = refl
      swap false true c = refl
      swap false false c = refl

      new_is : (i j : ℕ) → (eqb i row && (eqb (j / 64) a && bit_l (y * 2 ^ (g % 4 * 16)) (j % 64))) ≡ row_new i j
      new_is i j =
          ap (λ (v : ℕ). eqb i row && (eqb (j / 64) v && bit_l (y * 2 ^ (g % 4 * 16)) (j % 64))) q
          ∙ ap (λ (v : Bool). eqb i row && v) (spot g y j o.small ∙ ap (λ (v : ℕ). eqb v (j / 16) && bit_l y (j % 16)) f ∙ o.is j ∙ ap (λ (v : ℕ). names v j && not (eqb j row)) m)
          ∙ rw t (swap (eqb i row) (names (no_r x) j) (not (eqb j row)))

-- the bits of a group fit into a word
pub word_room : (y g : ℕ) {c z : ℕ} → y < 65536 → c ≡ g % 4 * 16 → z ≡ 2 ^ c → y * z < 18446744073709551616
word_room y g {c} {z} h d k =
    let p : z ≤ 281474976710656 = rw (k, d) (pow_mono {i = g % 4 * 16} {j = 48} (let q = mod-lt g (let o : 0 < 4 = omega arith in o) in omega arith)) in
    let m : y * z ≤ 65535 * 281474976710656 = mul-le-mul (let u : y ≤ 65535 = omega arith in u) p in
    omega arith

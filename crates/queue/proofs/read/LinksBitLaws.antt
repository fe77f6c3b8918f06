-- The bits of words: joined, moved up, one taken away; the lines of rows, the rows that a line names. Assumes nothing.
use Rattle.std.specs.Prelude.{◌≡◌, refl, Bool, true, false, cond, not, ◌&&◌, ◌||◌, List, ◌∷◌, ℕ, zero, suc, ◌+◌, ◌-◌, ◌*◌, ◌/◌, ◌%◌, ◌^◌, ◌≤◌, ◌<◌, max, ltb, leb, eqb, length, get_or, set}
use Rattle.std.proofs.Common.{ap, ap₂, sym, ◌∙◌, arith, le_of_suc-le-suc, pow-suc, mod-lt, div-add-mod', div-lt_iff_lt-mul, mul_comm, add-zero, suc-mul, mul-le-mul_right, add-one, get_or-set_same, get_or-set_other, eqb-true, eq-eqb, ne_eqb, ltb-true, ltb-false, lt-ltb, le-ltb, leb-true, leb-false, le-leb, div-one}
use Rattle.std.proofs.Math.Arith.{digits_div, digits_mod}
use Rattle.std.proofs.Math.Nat.{pow-succ', div-div-eq-div-mul}
use Rattle.std.specs.Int.Bits.{bit_or, block_half, block_odd, shifted_half}
use Rattle.std.proofs.lemmas.Bool.{eqb-false, lt-leb}
use Rattle.queue.specs.Basics.{any_append, or_assoc}
use Rattle.queue.specs.Codec.{cases}
use Rattle.queue.specs.bytes.ReaderLaws.{false_true}
use Rattle.queue.specs.paper.Lists.{any?}
use Rattle.queue.specs.read.LinksAs.{bit_l, bit_at, Joined, ones, word_ones, kids_of}
use Rattle.queue.proofs.check.FilterLaws.{or_half, or_odd}

-- ---- a word
pub or_no : (a : Bool) → (a || false) ≡ a
or_no true = refl
or_no false = refl

pub and_yes : (a : Bool) → a ≡ (a && true)
and_yes true = refl
and_yes false = refl

pub spread : (a b c : Bool) → ((a && c) || (b && c)) ≡ ((a || b) && c)
spread true true true = refl
spread true true false = refl
spread true false true = refl
spread true false false = refl
spread false b c = refl

pub half_pow : (m : ℕ) → 2 ^ suc m / 2 ≡ 2 ^ m
half_pow m = ap (λ (x : ℕ). x / 2) (pow-suc 2 m ∙ sym (add-zero (2 ^ m * 2))) ∙ digits_div (2 ^ m) (omega arith)

pub even_pow : (m : ℕ) → 2 ^ suc m % 2 ≡ 0
even_pow m = ap (λ (x : ℕ). x % 2) (pow-suc 2 m ∙ sym (add-zero (2 ^ m * 2))) ∙ digits_mod (2 ^ m) (omega arith)

pub max_one : (a : ℕ) → a < 2 → max a 1 ≡ 1
max_one zero h = refl
max_one (suc zero) h = refl
max_one (suc (suc a)) h = absurd (let z : ⊥ = omega arith in z)

pub bit_is : (x k : ℕ) → eqb (x / 2 ^ k % 2) 1 ≡ bit_l x k
unfolding bit_l
bit_is x zero = ap (λ (y : ℕ). eqb (y % 2) 1) (div-one x)
bit_is x (suc k) = ap (λ (y : ℕ). eqb (y % 2) 1) (ap (λ (y : ℕ). x / y) (pow-succ' 2 k) ∙ sym (div-div-eq-div-mul x 2 (2 ^ k))) ∙ bit_is (x / 2) k

bit_none : (k : ℕ) → bit_l 0 k ≡ false
unfolding bit_l
bit_none zero = refl
bit_none (suc k) = bit_none k

bit_one : (m k : ℕ) → bit_l (2 ^ m) k ≡ eqb k m
unfolding bit_l
bit_one zero zero = refl
bit_one zero (suc k) = bit_none k ∙ sym (ne_eqb (suc k) 0 (λ e. let z : ⊥ = omega arith in z))
bit_one (suc m) zero = rw (even_pow m) (sym (ne_eqb 0 (suc m) (λ e. let z : ⊥ = omega arith in z)))
bit_one (suc m) (suc k) = rw (half_pow m, lib.Dec.eqb-suc-suc k m) (bit_one m k)

pub bits_or : (x y k : ℕ) → bit_l (bit_or x y) k ≡ (bit_l x k || bit_l y k)
unfolding bit_l
bits_or x y zero = rw (or_odd x y) (odd_max (x % 2) (y % 2) (mod-lt x (omega arith)) (mod-lt y (omega arith)))
  where
    odd_max : (a b : ℕ) → a < 2 → b < 2 → eqb (max a b) 1 ≡ (eqb a 1 || eqb b 1)
    odd_max zero zero g h = refl
    odd_max zero (suc zero) g h = refl
    odd_max (suc zero) zero g h = refl
    odd_max (suc zero) (suc zero) g h = refl
    odd_max (suc (suc a)) b g h = absurd (let z : ⊥ = omega arith in z)
    odd_max zero (suc (suc b)) g h = absurd (let z : ⊥ = omega arith in z)
    odd_max (suc zero) (suc (suc b)) g h = absurd (let z : ⊥ = omega arith in z)
bits_or x y (suc k) = rw (or_half x y) (bits_or (x / 2) (y / 2) k)

-- the lowest m bits
bit_block : (m a r k : ℕ) → k < m → bit_l (a * 2 ^ m + r) k ≡ bit_l r k
unfolding bit_l
bit_block zero a r k h = absurd (let z : ⊥ = omega arith in z)
bit_block (suc m) a r zero h = rw (block_odd a m r)
bit_block (suc m) a r (suc k) h = rw (block_half a m r) (bit_block m a (r / 2) k (le_of_suc-le-suc h))

pub bit_low : (m x k : ℕ) → k < m → bit_l (x % 2 ^ m) k ≡ bit_l x k
bit_low m x k h = sym (bit_block m (x / 2 ^ m) (x % 2 ^ m) k h) ∙ ap (λ (y : ℕ). bit_l y k) (div-add-mod' x (2 ^ m))

pub bit_sum : (m a k i : ℕ) → k < m → i < m → bit_l (a * 2 ^ m + 2 ^ k) i ≡ eqb i k
bit_sum m a k i g h = bit_block m a (2 ^ k) i h ∙ bit_one k i

pub bit_high : (m x k : ℕ) → x < 2 ^ m → m ≤ k → bit_l x k ≡ false
unfolding bit_l
bit_high zero x k h g = ap (λ (y : ℕ). bit_l y k) (let z : x ≡ 0 = omega arith in z) ∙ bit_none k
bit_high (suc m) x zero h g = absurd (let z : ⊥ = omega arith in z)
bit_high (suc m) x (suc k) h g = bit_high m (x / 2) k ((div-lt_iff_lt-mul (let z : 0 < 2 = omega arith in z)).1 (rw (pow-suc 2 m) at h)) (le_of_suc-le-suc g)

-- bits that are moved up
pub bit_under : (s x k : ℕ) → k < s → bit_l (x * 2 ^ s) k ≡ false
bit_under s x k h = ap (λ (y : ℕ). bit_l y k) (sym (add-zero (x * 2 ^ s))) ∙ bit_block s x 0 k h ∙ bit_none k

pub bit_up : (s x k : ℕ) → bit_l (x * 2 ^ s) (s + k) ≡ bit_l x k
unfolding bit_l
bit_up zero x k = ap₂ bit_l (let z : x * 1 ≡ x = omega arith in z) (let z : 0 + k ≡ k = omega arith in z)
bit_up (suc s) x k = ap (bit_l (x * 2 ^ suc s)) (let z : suc s + k ≡ suc (s + k) = omega arith in z) ∙ ap (λ (y : ℕ). bit_l y (s + k)) (shifted_half x s) ∙ bit_up s x k

-- one bit taken away
bit_most : (k x : ℕ) → bit_l x k ≡ true → 2 ^ k ≤ x
bit_most k x t = cases (ltb x (2 ^ k)) (λ u. false_true (sym (bit_high k x k (ltb-true x (2 ^ k) u) (omega arith)) ∙ t)) (λ u. ltb-false x (2 ^ k) u)

pub bit_minus : (k x : ℕ) → bit_l x k ≡ true → (i : ℕ) → bit_l (x - 2 ^ k) i ≡ (bit_l x i && not (eqb i k))
unfolding bit_l
bit_minus zero x t zero =
    let o = eqb-true (x % 2) 1 t in
    let e : x - 1 ≡ x / 2 * 2 + 0 = let d = div-add-mod' x 2 in omega arith in
    rw (o, e, digits_mod (x / 2) (let z : 0 < 2 = omega arith in z))
bit_minus zero x t (suc i) =
    let o = eqb-true (x % 2) 1 t in
    let e : x - 1 ≡ x / 2 * 2 + 0 = let d = div-add-mod' x 2 in omega arith in
    rw (e, digits_div (x / 2) (let z : 0 < 2 = omega arith in z), ne_eqb (suc i) 0 (λ q. let z : ⊥ = omega arith in z)) (and_yes (bit_l (x / 2) i))
bit_minus (suc k) x t i = last (λ n. bit_minus k (x / 2) t n) i
  where
    half : x - 2 ^ suc k ≡ (x / 2 - 2 ^ k) * 2 + x % 2
    half = let d = div-add-mod' x 2 in let p = pow-suc 2 k in let q = bit_most k (x / 2) t in omega arith

    last : ((n : ℕ) → bit_l (x / 2 - 2 ^ k) n ≡ (bit_l (x / 2) n && not (eqb n k))) → (i : ℕ) → bit_l (x - 2 ^ suc k) i ≡ (bit_l x i && not (eqb i (suc k)))
    last f zero = rw (half, digits_mod (x / 2 - 2 ^ k) (mod-lt x (let z : 0 < 2 = omega arith in z)), ne_eqb 0 (suc k) (λ q. let z : ⊥ = omega arith in z)) (and_yes (eqb (x % 2) 1))
    last f (suc i) = rw (half, digits_div (x / 2 - 2 ^ k) (mod-lt x (let z : 0 < 2 = omega arith in z)), lib.Dec.eqb-suc-suc i k) (f i)

-- ---- a line for each row
-- the place of a word, and nothing else, says its row and its place in the line
apart_cells : (w i k : ℕ) {a b : ℕ} → a < w → b < w → i * w + a ≡ k * w + b → (i ≡ k) × (a ≡ b)
apart_cells w i k {a} {b} p q e =
    (sym (digits_div i p) ∙ ap (λ (x : ℕ). x / w) e ∙ digits_div k q, sym (digits_mod i p) ∙ ap (λ (x : ℕ). x % w) e ∙ digits_mod k q)

sixty : 0 < 64
sixty = omega arith

word_in : (w j : ℕ) → j < 64 * w → j / 64 < w
word_in w j h = (div-lt_iff_lt-mul sixty).1 (let e = mul_comm 64 w in omega arith)

-- two numbers in one block of n: their places there say whether they are the same
pub same_place : (n j k : ℕ) → j / n ≡ k / n → eqb (j % n) (k % n) ≡ eqb j k
same_place n j k e = cases (eqb (j % n) (k % n))
    (λ t. let f = eqb-true (j % n) (k % n) t in t ∙ sym (eq-eqb j k (sym (div-add-mod' j n) ∙ rw (e, f) (div-add-mod' k n))))
    (λ t. t ∙ sym (ne_eqb j k (λ g. eqb-false (j % n) (k % n) t (ap (λ (x : ℕ). x % n) g))))

module _ (bits : List ℕ) (w row a : ℕ) (in_row : row * w + w ≤ length bits) (in-line : a < w) where
  abbrev cell : ℕ
  cell = row * w + a

  pub set_word : (x i k : ℕ) → k < 64 * w → bit_at (set bits cell (bit_or (get_or bits cell 0) x)) w i k ≡ (bit_at bits w i k || (eqb i row && (eqb (k / 64) a && bit_l x (k % 64))))
  unfolding bit_at
  set_word x i k h = cases (eqb (i * w + k / 64) cell)
      (λ t.
      let e = eqb-true (i * w + k / 64) cell t in
      let u = apart_cells w i row (word_in w k h) in-line e in
      rw (e, get_or-set_same bits cell (bit_or (get_or bits cell 0) x) 0 (let z : cell < length bits = omega arith in z), bits_or (get_or bits cell 0) x (k % 64), eq-eqb i row u.0, eq-eqb (k / 64) a u.1))
      (λ t.
      let e = eqb-false (i * w + k / 64) cell t in
      rw (get_or-set_other bits cell (i * w + k / 64) (bit_or (get_or bits cell 0) x) 0 e, other e) (sym (or_no (bit_l (get_or bits (i * w + k / 64) 0) (k % 64)))))
    where
      other : (i * w + k / 64 ≡ cell → ⊥) → (eqb i row && (eqb (k / 64) a && bit_l x (k % 64))) ≡ false
      other e = cases (eqb i row)
          (λ t. cases (eqb (k / 64) a)
          (λ u. absurd (e (rw (eqb-true i row t, eqb-true (k / 64) a u))))
          (λ u. rw (t, u)))
          (λ t. rw t)

-- ---- bits that came
pub joined_none : {w : ℕ} {bits : List ℕ} {new : ℕ → ℕ → Bool} → ((i j : ℕ) → j < 64 * w → new i j ≡ false) → Joined w bits bits new
joined_none {w} {bits} {new} f = record { size = refl; is = λ i j _ h. sym (ap (λ (b : Bool). bit_at bits w i j || b) (f i j h) ∙ or_no (bit_at bits w i j)) }

pub joined_to : {w : ℕ} {bits bits' : List ℕ} {new new' : ℕ → ℕ → Bool} → ((i j : ℕ) → new i j ≡ new' i j) → Joined w bits bits' new → Joined w bits bits' new'
joined_to {w} {bits} {bits'} {new} {new'} f x = record { size = x.size; is = λ i j h k. x.is i j h k ∙ ap (λ (b : Bool). bit_at bits w i j || b) (f i j) }

pub joined_then : {w : ℕ} {a b c : List ℕ} {f g h : ℕ → ℕ → Bool} → Joined w a b f → Joined w b c g → ((i j : ℕ) → (f i j || g i j) ≡ h i j) → Joined w a c h
joined_then {w} {a} {b} {c} {f} {g} {h} x y k = record {
  size = y.size ∙ x.size;
  is = λ i j p q. y.is i j (rw x.size p) q ∙ ap (λ (z : Bool). z || g i j) (x.is i j p q) ∙ or_assoc (bit_at a w i j) (f i j) (g i j) ∙ ap (λ (z : Bool). bit_at a w i j || z) (k i j);
}

-- ---- where lines stand
pub pos_of : (m : ℕ) → (m ≡ 0 → ⊥) → 0 < m
pos_of zero n = absurd (n refl)
pos_of (suc m) n = omega arith

-- the line behind that of row i
pub line_in : (n w i : ℕ) → i < n → i * w + w ≤ n * w
line_in n w i h = let a = mul-le-mul_right w (let z : suc i ≤ n = h in z) in let b = suc-mul i w in omega arith

pub lines_room : (a b w : ℕ) {n m : ℕ} → a ≡ b → b * w ≤ n → m ≡ n → a * w ≤ m
lines_room a b w e h f = rw (e, f) h

pub line_next : {o : ℕ} (i w : ℕ) → o ≡ i * w → o + w ≡ (i + 1) * w
line_next {o} i w e = rw add-one (let z = suc-mul i w in omega arith)

-- ---- the rows that a line names
ones_any : (n x j k : ℕ) → any? (eqb k) (ones n x j) ≡ ((leb j k && ltb k (j + n)) && bit_l x (k - j))
unfolding ones bit_l
ones_any zero x j k = cases (leb j k)
    (λ t. let h = leb-true j k t in rw (t, le-ltb k (j + 0) (omega arith)))
    (λ t. rw t)
ones_any (suc n) x j k =
    let i = ones_any n (x / 2) (j + 1) k in
    cases (eqb k j)
    (λ t. let e = eqb-true k j t in
    let z : k - j ≡ 0 = omega arith in
    let off : any? (eqb k) (ones n (x / 2) (j + 1)) ≡ false = i ∙ rw (lt-leb (j + 1) k (omega arith)) in
    rw (z, le-leb j k (omega arith), lt-ltb k (j + suc n) (omega arith)) (first t off (eqb (x % 2) 1)))
    (λ t. let e = eqb-false k j t in later t e i (eqb (x % 2) 1))
  where
    first : eqb k j ≡ true → any? (eqb k) (ones n (x / 2) (j + 1)) ≡ false → (b : Bool) → any? (eqb k) (cond b (j ∷ ones n (x / 2) (j + 1)) (ones n (x / 2) (j + 1))) ≡ b
    first t off true = rw t
    first t off false = off

    shifted : (eqb k j ≡ false) → ((leb (j + 1) k && ltb k (j + 1 + n)) && bit_l (x / 2) (k - (j + 1))) ≡ ((leb j k && ltb k (j + suc n)) && bit_l x (k - j))
    shifted t = cases (leb (j + 1) k)
        (λ u. let h = leb-true (j + 1) k u in
        let z : k - j ≡ suc (k - (j + 1)) = omega arith in
        let q : j + 1 + n ≡ j + suc n = omega arith in
        rw (u, le-leb j k (omega arith), z, q))
        (λ u. let h = leb-false (j + 1) k u in let e = eqb-false k j t in rw (u, lt-leb j k (let z : k < j = omega arith in z)))

    later : eqb k j ≡ false → (k ≡ j → ⊥) → any? (eqb k) (ones n (x / 2) (j + 1)) ≡ ((leb (j + 1) k && ltb k (j + 1 + n)) && bit_l (x / 2) (k - (j + 1)))
        → (b : Bool) → any? (eqb k) (cond b (j ∷ ones n (x / 2) (j + 1)) (ones n (x / 2) (j + 1))) ≡ ((leb j k && ltb k (j + suc n)) && bit_l x (k - j))
    later t e i true = rw t (i ∙ shifted t)
    later t e i false = i ∙ shifted t

-- a number from j on: its word, and its bit
words_any : (bits : List ℕ) (m p j k : ℕ) → j ≤ k → k < j + 64 * m → any? (eqb k) (word_ones bits m p j) ≡ bit_l (get_or bits (p + (k - j) / 64) 0) ((k - j) % 64)
unfolding word_ones
words_any bits zero p j k a b = absurd (let z : ⊥ = omega arith in z)
words_any bits (suc m) p j k a b =
    any_append (eqb k) (ones 64 (get_or bits p 0) j) (word_ones bits m (p + 1) (j + 64))
    ∙ cases (ltb k (j + 64))
    (λ t. let h = ltb-true k (j + 64) t in
    let z : (k - j) / 64 ≡ 0 = digits_0 (k - j) (omega arith) in
    let y : (k - j) % 64 ≡ k - j = mod_0 (k - j) (omega arith) in
    let o : p + 0 ≡ p = omega arith in
    rw (ones_any 64 (get_or bits p 0) j k, t, le-leb j k a, none m (p + 1) (j + 64) (omega arith), z, y, o) (or_no (bit_l (get_or bits p 0) (k - j))))
    (λ t. let h = ltb-false k (j + 64) t in
    let i = words_any bits m (p + 1) (j + 64) k h (omega arith) in
    let d : k - j ≡ 1 * 64 + (k - (j + 64)) = omega arith in
    let z : (k - j) / 64 ≡ 1 + (k - (j + 64)) / 64 = ap (λ (n : ℕ). n / 64) d ∙ more_div (k - (j + 64)) in
    let y : (k - j) % 64 ≡ (k - (j + 64)) % 64 = ap (λ (n : ℕ). n % 64) d ∙ more_mod (k - (j + 64)) in
    let o : p + (1 + (k - (j + 64)) / 64) ≡ p + 1 + (k - (j + 64)) / 64 = omega arith in
    rw (ones_any 64 (get_or bits p 0) j k, t, z, y, o) (clear (leb j k) (bit_l (get_or bits p 0) (k - j)) ∙ i))
  where
    clear : (a b : Bool) {c : Bool} → (((a && false) && b) || c) ≡ c
    clear true b = refl
    clear false b = refl

    digits_0 : (n : ℕ) → n < 64 → n / 64 ≡ 0
    digits_0 n h = ap (λ (x : ℕ). x / 64) (let e : n ≡ 0 * 64 + n = omega arith in e) ∙ digits_div 0 h

    mod_0 : (n : ℕ) → n < 64 → n % 64 ≡ n
    mod_0 n h = ap (λ (x : ℕ). x % 64) (let e : n ≡ 0 * 64 + n = omega arith in e) ∙ digits_mod 0 h

    more_div : (n : ℕ) → (1 * 64 + n) / 64 ≡ 1 + n / 64
    more_div n = let q = n / 64 in let r = n % 64 in
        ap (λ (x : ℕ). (1 * 64 + x) / 64) (sym (div-add-mod' n 64))
        ∙ ap (λ (x : ℕ). x / 64) (let e : 1 * 64 + (n / 64 * 64 + n % 64) ≡ (1 + n / 64) * 64 + n % 64 = omega arith in e)
        ∙ digits_div (1 + n / 64) (mod-lt n (omega arith))

    more_mod : (n : ℕ) → (1 * 64 + n) % 64 ≡ n % 64
    more_mod n =
        ap (λ (x : ℕ). (1 * 64 + x) % 64) (sym (div-add-mod' n 64))
        ∙ ap (λ (x : ℕ). x % 64) (let e : 1 * 64 + (n / 64 * 64 + n % 64) ≡ (1 + n / 64) * 64 + n % 64 = omega arith in e)
        ∙ digits_mod (1 + n / 64) (mod-lt n (omega arith))

    none : (m p j : ℕ) → k < j → any? (eqb k) (word_ones bits m p j) ≡ false
    none zero p j h = refl
    none (suc m) p j h = any_append (eqb k) (ones 64 (get_or bits p 0) j) (word_ones bits m (p + 1) (j + 64)) ∙ rw (ones_any 64 (get_or bits p 0) j k, lt-leb j k h, none m (p + 1) (j + 64) (omega arith))

pub kids_any : (bits : List ℕ) (w i j : ℕ) → j < 64 * w → any? (eqb j) (kids_of bits w i) ≡ bit_at bits w i j
unfolding kids_of bit_at
kids_any bits w i j h = words_any bits w (i * w) 0 j (omega arith) (omega arith) ∙ rw (let z : j - 0 ≡ j = omega arith in z)

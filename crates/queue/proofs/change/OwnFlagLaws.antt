-- Flags as the bits of words. Assumes nothing.
use Rattle.std.specs.Prelude.{◌≡◌, refl, Bool, true, false, cond, ◌&&◌, List, [], ◌∷◌, ◌++◌, ℕ, zero, suc, ◌+◌, ◌*◌, ◌/◌, ◌%◌, ◌^◌, ◌≤◌, ◌<◌, leb, ltb, eqb, length, get_or, set}
use Rattle.std.proofs.Common.{ap, sym, ◌∙◌, arith, mod-lt, div-add-mod', div-lt_iff_lt-mul, mul_comm, pow_pos, length-append, get_or-append-add, leb-true, ltb-true}
use Rattle.std.proofs.Math.Nat.{max-zero}
use Rattle.std.proofs.Math.ListN.{get_or-append as List·getD-append}
use Rattle.std.specs.Int.Bits.{bit_or, or_zero_r}
use Rattle.queue.specs.Basics.{cons_same, set_behind}
use Rattle.queue.specs.Lists.{and_true}
use Rattle.queue.specs.change.OwnAs.{set?, word_bits, bits_in, flags_of, FlagsAre}
use Rattle.queue.specs.read.LinksAs.{bit_l, Zero}
use Rattle.queue.specs.paper.Records.{Id}
use Rattle.queue.proofs.check.FilterLaws.{or_half, or_odd}
use Rattle.queue.proofs.read.LinksBitLaws.{half_pow, even_pow, max_one, bit_is}

-- ---- lists
put_front : (a b : List ℕ) (k x : ℕ) → k < length a → set (a ++ b) k x ≡ set a k x ++ b
put_front [] b k x h = absurd (let z : ⊥ = omega arith in z)
put_front (y ∷ a) b zero x h = refl
put_front (y ∷ a) b (suc k) x h = ap (λ l. y ∷ l) (put_front a b k x (omega arith))

-- ---- a word
word_long : (n x : ℕ) → length (word_bits n x) ≡ n
unfolding word_bits
word_long zero x = refl
word_long (suc n) x = ap suc (word_long n (x / 2))

word_get : (n x k : ℕ) → k < n → set? (get_or (word_bits n x) k 0) ≡ bit_l x k
unfolding word_bits bit_l
word_get zero x k h = absurd (let z : ⊥ = omega arith in z)
word_get (suc n) x zero h = refl
word_get (suc n) x (suc k) h = word_get n (x / 2) k (omega arith)

word_set : (n x k : ℕ) → k < n → word_bits n (bit_or x (2 ^ k)) ≡ set (word_bits n x) k 1
unfolding word_bits
word_set zero x k h = absurd (let z : ⊥ = omega arith in z)
word_set (suc n) x zero h = rw (or_odd x 1, max_one (x % 2) (mod-lt x (omega arith)), or_half x 1, or_zero_r (x / 2))
word_set (suc n) x (suc k) h = rw (or_odd x (2 ^ suc k), even_pow k, max-zero (x % 2), or_half x (2 ^ suc k), half_pow k) (ap (λ l. (x % 2) ∷ l) (word_set n (x / 2) k (omega arith)))

-- ---- words
pub bits_long : (f : List ℕ) → length (bits_in f) ≡ 64 * length f
unfolding bits_in
bits_long [] = refl
bits_long (x ∷ f) = let a = length-append (word_bits 64 x) (bits_in f) in let b = word_long 64 x in let c = bits_long f in omega arith

next_word : (i k : ℕ) (x : ℕ) → suc i * 64 + k ≡ length (word_bits 64 x) + (i * 64 + k)
next_word i k x = let b = word_long 64 x in omega arith

get_at : (f : List ℕ) (i k : ℕ) → k < 64 → i < length f → set? (get_or (bits_in f) (i * 64 + k) 0) ≡ bit_l (get_or f i 0) k
unfolding bits_in
get_at [] i k h j = absurd (let z : ⊥ = omega arith in z)
get_at (x ∷ f) zero k h j = let e : 0 * 64 + k ≡ k = omega arith in rw e (ap (λ (y : ℕ). set? y) (List·getD-append (word_bits 64 x) (bits_in f) 0 k (rw (word_long 64 x) h)) ∙ word_get 64 x k h)
get_at (x ∷ f) (suc i) k h j = ap (λ (y : ℕ). set? (get_or (word_bits 64 x ++ bits_in f) y 0)) (next_word i k x) ∙ ap (λ (y : ℕ). set? y) (get_or-append-add (word_bits 64 x) (bits_in f) (i * 64 + k) 0) ∙ get_at f i k h (omega arith)

set_at : (f : List ℕ) (i k : ℕ) → k < 64 → i < length f → bits_in (set f i (bit_or (get_or f i 0) (2 ^ k))) ≡ set (bits_in f) (i * 64 + k) 1
unfolding bits_in
set_at [] i k h j = absurd (let z : ⊥ = omega arith in z)
set_at (x ∷ f) zero k h j = let e : 0 * 64 + k ≡ k = omega arith in rw e (ap (λ (l : List ℕ). l ++ bits_in f) (word_set 64 x k h) ∙ sym (put_front (word_bits 64 x) (bits_in f) k 1 (rw (word_long 64 x) h)))
set_at (x ∷ f) (suc i) k h j = ap (λ (l : List ℕ). word_bits 64 x ++ l) (set_at f i k h (omega arith)) ∙ sym (ap (λ (y : ℕ). set (word_bits 64 x ++ bits_in f) y 1) (next_word i k x) ∙ set_behind (word_bits 64 x) (bits_in f) (i * 64 + k) 1)

pub word_of : (g n : ℕ) → g < 64 * n → g / 64 < n
word_of g n h = (div-lt_iff_lt-mul (let z : 0 < 64 = omega arith in z)).1 (let e = mul_comm 64 n in omega arith)

pub bit_of : (g : ℕ) → g % 64 < 64
bit_of g = mod-lt g (omega arith)

module _ (f : List ℕ) (g : ℕ) (h : g < 64 * length f) where
  pub flag_is : {w b : ℕ} {r : Bool} → w ≡ get_or f (g / 64) 0 → b ≡ 2 ^ (g % 64) → r ≡ eqb (w / b % 2) 1 → r ≡ set? (get_or (bits_in f) g 0)
  flag_is e d q = q ∙ rw (e, d) (bit_is (get_or f (g / 64) 0) (g % 64) ∙ sym (get_at f (g / 64) (g % 64) (bit_of g) (word_of g (length f) h)) ∙ ap (λ (y : ℕ). set? (get_or (bits_in f) y 0)) (div-add-mod' g 64))

  pub flag_set : {i b w : ℕ} {f' : List ℕ} → i ≡ g / 64 → b ≡ 2 ^ (g % 64) → w ≡ get_or f i 0 → f' ≡ set f i (bit_or w b) → bits_in f' ≡ set (bits_in f) g 1
  flag_set {i} {b} {w} {f'} e d q k = ap bits_in (k ∙ rw (q, e, d)) ∙ set_at f (g / 64) (g % 64) (bit_of g) (word_of g (length f) h) ∙ ap (λ (y : ℕ). set (bits_in f) y 1) (div-add-mod' g 64)

-- ---- flags of zeros
word_zero : (n i : ℕ) → get_or (word_bits n 0) i 0 ≡ 0
unfolding word_bits
word_zero zero i = refl
word_zero (suc n) zero = refl
word_zero (suc n) (suc i) = word_zero n i

both_zero : (a b : List ℕ) → ((i : ℕ) → get_or a i 0 ≡ 0) → ((i : ℕ) → get_or b i 0 ≡ 0) → (i : ℕ) → get_or (a ++ b) i 0 ≡ 0
both_zero [] b p q i = q i
both_zero (x ∷ a) b p q zero = p 0
both_zero (x ∷ a) b p q (suc i) = both_zero a b (λ j. p (suc j)) q i

bits_zero : (f : List ℕ) → ((i : ℕ) → get_or f i 0 ≡ 0) → (i : ℕ) → get_or (bits_in f) i 0 ≡ 0
unfolding bits_in
bits_zero [] p i = refl
bits_zero (x ∷ f) p i = both_zero (word_bits 64 x) (bits_in f) (λ j. ap (λ (y : ℕ). get_or (word_bits 64 y) j 0) (p 0) ∙ word_zero 64 j) (bits_zero f (λ j. p (suc j))) i

none_set : (l : List Id) (b : List ℕ) → length l ≤ length b → ((i : ℕ) → get_or b i 0 ≡ 0) → FlagsAre (λ z. false) l b
unfolding flags_of
none_set [] b h p = record { more = b; is = refl }
none_set (z ∷ l) [] h p = absurd (let y : ⊥ = omega arith in y)
none_set (z ∷ l) (x ∷ b) h p = let i = none_set l b (omega arith) (λ j. p (suc j)) in record { more = i.more; is = cons_same (p 0) i.is }

pub cleared_flags : (l : List Id) (f : List ℕ) → length l ≤ 64 * length f → Zero f → FlagsAre (λ z. false) l (bits_in f)
cleared_flags l f h z = none_set l (bits_in f) (rw (bits_long f) h) (bits_zero f z.all)

-- room by whole words
pub words_room : {n m w : ℕ} → w ≡ (n + 63) / 64 → w ≤ m → n ≤ 64 * m
words_room {n} {m} {w} e h = let d = div-add-mod' (n + 63) 64 in let r = mod-lt (n + 63) (let z : 0 < 64 = omega arith in z) in let k : (n + 63) / 64 ≤ m = rw e at h in omega arith

pub noted_room : (go : Bool) (w m k : ℕ) {r : Bool} → r ≡ ((go && leb w m) && ltb 0 k) → r ≡ true → (go ≡ true) × (w ≤ m) × (0 < k)
noted_room go w m k {r} e t =
    let u = and_true (go && leb w m) (ltb 0 k) (sym e ∙ t) in
    let v = and_true go (leb w m) u.0 in
    (v.0, leb-true w m v.1, ltb-true 0 k u.1)

-- what lists the flags' places need
pub in_bits : (f : List ℕ) {i : ℕ} → i < 64 * length f → i < length (bits_in f)
in_bits f h = rw (bits_long f) h

pub bits_fit : (f : List ℕ) {n : ℕ} → n ≤ length (bits_in f) → n ≤ 64 * length f
bits_fit f h = let e = bits_long f in omega arith

pub when_yes : (b : Bool) (x y : List ℕ) {z : List ℕ} → b ≡ true → z ≡ x → z ≡ cond b x y
when_yes b x y e h = h ∙ rw e

pub when_no : (b : Bool) (x y : List ℕ) {z : List ℕ} → b ≡ false → z ≡ y → z ≡ cond b x y
when_no b x y e h = h ∙ rw e

pub pow_some : {b : ℕ} (k : ℕ) → b ≡ 2 ^ k → 0 < b
pow_some {b} k e = rw e (pow_pos k)

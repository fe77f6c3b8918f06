-- The laws by which readers are put together.
use Rattle.std.specs.Prelude.{◌≡◌, refl, Bool, true, false, List, [], ◌∷◌, ℕ, zero, suc, ◌+◌, ◌-◌, ◌*◌, ◌^◌, ◌≤◌, ◌<◌, length, drop, get_or, ◌++◌}
use Rattle.std.proofs.Common.{ap, sym, ◌∙◌, arith, add_assoc, add-zero, add-suc, pow-suc, zero-mul, suc-mul, add-one, length-drop, length-append, drop-cons, lt-ltb}
use Rattle.std.proofs.Math.Option.{Option, none, some}
use Rattle.queue.specs.Codec.{Bytes, Got, fail, got, ◌>>=◌, bind_got, Codec, byte_dec, byte_c, be_dec, be_c, pair_dec, pair_c, map_c, opt_dec, opt_c, decs, vec_c, counted_c, All, encs, be_length, vec_bwd}
use Rattle.queue.specs.bytes.ReaderAs.{Fails, Found, Stands, flag_dec, flag_c, IsCounted, NotCounted, no_count, too_many, is_got, val_of, rest_of, whole, list_at, behind}

pub false_true : {X : Type 0} → false ≡ true → X
false_true e = let z : ◌≡◌ {A = ℕ} 0 1 = cc in absurd (omega arith)

-- two in a row
unfoldable pub pair : {A B : Type 0} {𝓐 : Codec A} {𝓑 : Codec B} {s : Bytes} {at m n : ℕ} {V : A → Type 0} {W : B → Type 0} → Found 𝓐 s at m V → Found 𝓑 s m n W → Found (pair_c 𝓐 𝓑) s at n (λ x. V x.0 × W x.1)
unfolding pair_c pair_dec
pair x y = let u = x.up in let v = y.up in record { value = (x.value, y.value); is = rw (x.is, y.is) refl; up = omega arith; within = y.within; fact = (x.fact, y.fact) }

module _ {A B : Type 0} {𝓐 : Codec A} (𝓑 : Codec B) {s : Bytes} {at : ℕ} where
  pub first : Fails 𝓐 s at → Fails (pair_c 𝓐 𝓑) s at
  unfolding pair_c pair_dec
  first x = record { is = λ h. rw (x.is h) refl }

  pub later : {m : ℕ} {V : A → Type 0} → Found 𝓐 s at m V → Fails 𝓑 s m → Fails (pair_c 𝓐 𝓑) s at
  unfolding pair_c pair_dec
  later x y = record { is = λ h. rw (x.is, y.is x.within) refl }

-- the same bytes, another type
module _ {A B : Type 0} (f : A → B) (g : B → A) (gf : (a : A) → g (f a) ≡ a) (fg : (b : B) → f (g b) ≡ b) {𝓐 : Codec A} {s : Bytes} {at : ℕ} where
  unfoldable pub mapped : {n : ℕ} {V : A → Type 0} (W : B → Type 0) → (x : Found 𝓐 s at n V) → (V x.value → W (f x.value)) → Found (map_c f g gf fg 𝓐) s at n W
  unfolding map_c
  mapped W x k = record { value = f x.value; is = rw x.is refl; up = x.up; within = x.within; fact = k x.fact }

  pub map_fails : Fails 𝓐 s at → Fails (map_c f g gf fg 𝓐) s at
  unfolding map_c
  map_fails x = record { is = λ h. rw (x.is h) refl }

pub weaken : {A : Type 0} {𝓐 : Codec A} {s : Bytes} {at n : ℕ} {V : A → Type 0} (W : A → Type 0) → (x : Found 𝓐 s at n V) → (V x.value → W x.value) → Found 𝓐 s at n W
weaken W x k = record { value = x.value; is = x.is; up = x.up; within = x.within; fact = k x.fact }

-- a flag and what it announces
module _ {A : Type 0} (𝓐 : Codec A) where
  abbrev pub opt_from : Bool → Bytes → Got (Option A)
  opt_from false t = got none t
  opt_from true t = 𝓐.dec t >>= λ a r. got (some a) r

  pub opt_flag : (s : Bytes) → (opt_c 𝓐).dec s ≡ (flag_dec s >>= λ b t. opt_from b t)
  unfolding opt_c opt_dec flag_dec
  opt_flag [] = refl
  opt_flag (zero ∷ s) = refl
  opt_flag (suc zero ∷ s) = refl
  opt_flag (suc (suc n) ∷ s) = refl

module _ {A : Type 0} (𝓐 : Codec A) {s : Bytes} {at : ℕ} where
  pub opt_fails : Fails flag_c s at → Fails (opt_c 𝓐) s at
  unfolding flag_c
  opt_fails x = record { is = λ h. opt_flag 𝓐 (drop at s) ∙ rw (x.is h) refl }

  module _ {m : ℕ} {flag : Bool} (x : Found flag_c s at m (λ b. flag ≡ b)) where
    pub opt_absent : flag ≡ false → (W : Option A → Type 0) → W none → Found (opt_c 𝓐) s at m W
    unfolding flag_c
    opt_absent z W w = let e : x.value ≡ false = sym x.fact ∙ z in record { value = none; is = opt_flag 𝓐 (drop at s) ∙ rw (x.is, e) refl; up = x.up; within = x.within; fact = w }

    pub opt_present : {n : ℕ} {V : A → Type 0} → flag ≡ true → (y : Found 𝓐 s m n V) → (W : Option A → Type 0) → (V y.value → W (some y.value)) → Found (opt_c 𝓐) s at n W
    unfolding flag_c
    opt_present z y W k = let e : x.value ≡ true = sym x.fact ∙ z in let u = x.up in let v = y.up in record { value = some y.value; is = opt_flag 𝓐 (drop at s) ∙ rw (x.is, e, y.is) refl; up = omega arith; within = y.within; fact = k y.fact }

    pub opt_later : flag ≡ true → Fails 𝓐 s m → Fails (opt_c 𝓐) s at
    unfolding flag_c
    opt_later z y = record { is = λ h. let e : x.value ≡ true = sym x.fact ∙ z in opt_flag 𝓐 (drop at s) ∙ rw (x.is, e, y.is x.within) refl }

-- ---- bytes
module _ (s : Bytes) where
  abbrev pub SmallAt : Type 0
  SmallAt = (j : ℕ) → j < length s → get_or s j 0 < 256

  pub byte_here : (at : ℕ) → at < length s → get_or s at 0 < 256 → byte_dec (drop at s) ≡ got (get_or s at 0) (drop (suc at) s)
  unfolding byte_dec
  byte_here at h k = rw (drop-cons s at 0 h, lt-ltb _ _ k)

pub drop_none : (s : Bytes) (at : ℕ) → length s ≤ at → drop at s ≡ []
drop_none [] zero h = refl
drop_none [] (suc n) h = refl
drop_none (b ∷ s) zero h = absurd (let y : ⊥ = omega arith in y)
drop_none (b ∷ s) (suc n) h = drop_none s n (omega arith)

-- ---- numbers
unfoldable pub be_at : ℕ → Bytes → ℕ → ℕ
be_at zero s at = 0
be_at (suc n) s at = be_at n s at * 256 + get_or s (at + n) 0

pub be_snoc : (i : ℕ) (t : Bytes) (v : ℕ) (r : Bytes) (b : ℕ) → be_dec i t ≡ got v (b ∷ r) → b < 256 → be_dec (suc i) t ≡ got (v * 256 + b) r
unfolding be_dec byte_dec
be_snoc zero t v r b e h = let k : 0 ≡ v = cc in let m : t ≡ b ∷ r = cc in rw (m, lt-ltb b 256 h, ← k) (ap (λ (x : ℕ). got x r) (let y : b * 256 ^ 0 + 0 ≡ 0 * 256 + b = omega arith in y))
be_snoc (suc i) t v r b e h =
    bind_got (byte_dec t) _ v (b ∷ r) e λ b₀ t₁ p f.
    bind_got (be_dec i t₁) _ v (b ∷ r) f λ w q p' f'.
    let e1 : b₀ * 256 ^ i + w ≡ v = cc in
    let e2 : q ≡ b ∷ r = cc in
    let ih = be_snoc i t₁ w r b (rw e2 at p') h in
    let g = pow-suc 256 i in
    rw (p, ih) (ap (λ (x : ℕ). got x r) (let y : b₀ * 256 ^ suc i + (w * 256 + b) ≡ v * 256 + b = rw (← e1, pow-suc) (omega arith) in y))

pub be_here : (n : ℕ) (s : Bytes) (at : ℕ) → at + n ≤ length s → SmallAt s → be_dec n (drop at s) ≡ got (be_at n s at) (drop (at + n) s)
unfolding be_at be_dec
be_here zero s at h k = rw add-zero
be_here (suc n) s at h k =
    let i = be_here n s at (omega arith) k in
    let c = drop-cons s (at + n) 0 (omega arith) in
    rw add-suc (be_snoc n (drop at s) (be_at n s at) (drop (suc (at + n)) s) (get_or s (at + n) 0) (i ∙ rw c) (k (at + n) (omega arith)))

-- a codec that takes any n bytes
pub record Spans {A : Type 0} (𝓐 : Codec A) (n : ℕ) : Type 0 where
  pub size : (a : A) → 𝓐.ok a → length (𝓐.enc a) ≡ n
  pub all : (s : Bytes) (at : ℕ) → at + n ≤ length s → SmallAt s → (a : A) × (𝓐.dec (drop at s) ≡ got a (drop (at + n) s))

got_cases : {A X : Type 0} (o : Got A) → (o ≡ fail → X) → ((a : A) (r : Bytes) → o ≡ got a r → X) → X
got_cases fail f g = f refl
got_cases (got a r) f g = g a r refl

-- too short to be one
pub short : {A : Type 0} (𝓐 : Codec A) (n : ℕ) (s : Bytes) (at : ℕ) → Spans 𝓐 n → at ≤ length s → length s < at + n → 𝓐.dec (drop at s) ≡ fail
short 𝓐 n s at x h k = got_cases (𝓐.dec (drop at s)) (λ e. e)
    (λ a r e. let u = 𝓐.bwd (drop at s) a r e in
    let z = x.size a u.1 in
    let l = ap length u.0 in
    absurd (omega (arith, length-append (𝓐.enc a) r, length-drop at s)))

unfoldable pub spanned : {A : Type 0} {𝓐 : Codec A} {n : ℕ} {s : Bytes} {at next : ℕ} → Spans 𝓐 n → Stands s at n next → Found 𝓐 s at next (λ a. Unit {0})
spanned {A} {𝓐} {n} {s} {at} {next} x y = let v = x.all s at y.within y.small in record { value = v.0; is = v.1 ∙ rw y.is refl; up = omega (arith, y.is); within = omega (arith, y.is, y.within); fact = tt }

-- a flag that is 1, and a value behind it that is passed over
pub opt_span : {A : Type 0} {𝓐 : Codec A} {s : Bytes} {at m n next : ℕ} {flag : Bool} → Spans 𝓐 n → Found flag_c s at m (λ b. flag ≡ b) → flag ≡ true → Stands s m n next → Found (opt_c 𝓐) s at next (λ o. (a : A) × (o ≡ some a))
opt_span {A} {𝓐} p x z y = let v = spanned p y in opt_present 𝓐 x z v (λ o. (a : A) × (o ≡ some a)) (λ u. (v.value, refl))

pub not_spanned : {A : Type 0} {𝓐 : Codec A} {n : ℕ} {s : Bytes} {at : ℕ} → Spans 𝓐 n → length s < at + n → Fails 𝓐 s at
not_spanned {A} {𝓐} {n} {s} {at} x k = record { is = λ h. short 𝓐 n s at x h k }

pub spans_byte : Spans byte_c 1
unfolding byte_c
spans_byte = record { size = λ a h. refl; all = λ s at h k. (get_or s at 0, byte_here s at (omega arith) (k at (omega arith)) ∙ rw add-one) }

pub spans_be : (n : ℕ) → Spans (be_c n) n
unfolding be_c
spans_be n = record { size = λ a h. be_length n a; all = λ s at h k. (be_at n s at, be_here n s at h k) }

pub spans_pair : {A B : Type 0} {𝓐 : Codec A} {𝓑 : Codec B} {m n : ℕ} → Spans 𝓐 m → Spans 𝓑 n → Spans (pair_c 𝓐 𝓑) (m + n)
unfolding pair_c pair_dec
spans_pair {A} {B} {𝓐} {𝓑} {m} {n} x y = record {
  size = λ a h. let u = x.size a.0 h.0 in let v = y.size a.1 h.1 in rw length-append (omega arith);
  all = λ s at h k. let u = x.all s at (omega arith) k in let v = y.all s (at + m) (omega arith) k in ((u.0, v.0), rw (u.1, v.1, add_assoc));
}

vec_size : {A : Type 0} {𝓐 : Codec A} {m : ℕ} → Spans 𝓐 m → (l : List A) → All 𝓐.ok l → length (encs 𝓐 l) ≡ length l * m
unfolding encs
vec_size x [] h = rw zero-mul
vec_size {A} {𝓐} {m} x (a ∷ l) h = let i = vec_size x l h.1 in let u = x.size a h.0 in rw (length-append, suc-mul) (omega arith)

pub vec_all : {A : Type 0} {𝓐 : Codec A} {m : ℕ} → Spans 𝓐 m → (k : ℕ) (s : Bytes) (at : ℕ) → at + k * m ≤ length s → SmallAt s → (l : List A) × (decs 𝓐 k (drop at s) ≡ got l (drop (at + k * m) s))
unfolding decs
vec_all x zero s at h w = ([], rw (zero-mul, add-zero))
vec_all {A} {𝓐} {m} x (suc k) s at h w =
    let e = suc-mul k m in
    let u = x.all s at (omega arith) w in
    let v = vec_all x k s (at + m) (omega arith) w in
    let f : at + m + k * m ≡ at + suc k * m = omega arith in
    (u.0 ∷ v.0, rw (u.1, v.1, f))

pub spans_vec : {A : Type 0} {𝓐 : Codec A} {m : ℕ} → Spans 𝓐 m → (k : ℕ) → Spans (vec_c 𝓐 k) (k * m)
unfolding vec_c
spans_vec x k = record { size = λ l h. vec_size x l h.0 ∙ rw h.1; all = vec_all x k }

-- ---- counted items
module _ {A : Type 0} {𝓐 : Codec A} {s : Bytes} {at w size : ℕ} (x : Spans 𝓐 size) where
  unfoldable pub counted : {len start next : ℕ} → IsCounted s at w size len start next
      → Found (counted_c 𝓐 w) s at next (λ l. (length l ≡ len) × (decs 𝓐 len (drop start s) ≡ got l (drop next s)) × (start ≤ length s))
  unfolding counted_c be_c decs vec_c
  counted {len} {start} {next} y =
      let u = y.count in
      let v = y.items in
      let a = vec_all x len s start v.within v.small in
      let n = vec_bwd 𝓐 len (drop start s) a.0 _ a.1 in
      record {
        value = a.0;
        is = rw (u.is, u.fact) (a.1 ∙ rw v.is refl);
        up = omega (arith, u.up, v.is);
        within = omega (arith, v.is, v.within);
        fact = (n.1.1, a.1 ∙ rw v.is refl, u.within);
      }

  pub not_counted : NotCounted s at w size → Fails (counted_c 𝓐 w) s at
  unfolding counted_c be_c decs vec_c
  not_counted (no_count f) = record { is = λ h. rw (f.is h) refl }
  not_counted (too_many len start u k) = record { is = λ h. rw (u.is, u.fact) (short (vec_c 𝓐 len) (len * size) s start (spans_vec x len) u.within k) }

-- ---- lists
pub record Turn {A : Type 0} (𝓐 : Codec A) (s : Bytes) (n at next : ℕ) (W : A → Type 0) : Type 0 where
  pub item : A
  pub is : W item
  pub here : 𝓐.dec (drop at s) ≡ got item (drop next s)
  pub list : list_at 𝓐 n s at ≡ item ∷ list_at 𝓐 (n - 1) s next
  pub rest : whole 𝓐 (n - 1) s next ≡ true
  pub up : at ≤ next
  pub within : next ≤ length s

cons_got : {A : Type 0} (a : A) (o : Got (List A)) → is_got o ≡ true → val_of (o >>= λ l r. got (a ∷ l) r) ≡ a ∷ val_of o
cons_got a fail e = false_true e
cons_got a (got l r) e = refl

cons_is : {A : Type 0} (a : A) (o : Got (List A)) → is_got (o >>= λ l r. got (a ∷ l) r) ≡ is_got o
cons_is a fail = refl
cons_is a (got l r) = refl

cons_rest : {A : Type 0} (a : A) (o : Got (List A)) → rest_of (o >>= λ l r. got (a ∷ l) r) ≡ rest_of o
cons_rest a fail = refl
cons_rest a (got l r) = refl

-- one value read, of n that are to be
pub whole_step : {A : Type 0} {𝓐 : Codec A} {s : Bytes} (n : ℕ) {at next : ℕ} {W : A → Type 0} → 0 < n → Found 𝓐 s at next W
    → (whole 𝓐 n s at ≡ whole 𝓐 (n - 1) s next) × (behind 𝓐 n s at ≡ behind 𝓐 (n - 1) s next)
unfolding whole behind decs
whole_step zero p x = absurd (let y : ⊥ = omega arith in y)
whole_step {A} {𝓐} {s} (suc n) {at} {next} p x = let m : suc n - 1 ≡ n = omega arith in
    rw (x.is, m) (cons_is x.value (decs 𝓐 n (drop next s)), cons_rest x.value (decs 𝓐 n (drop next s)))

pub whole_bad : {A : Type 0} {𝓐 : Codec A} {s : Bytes} (n : ℕ) {at : ℕ} → at ≤ length s → 0 < n → Fails 𝓐 s at → whole 𝓐 n s at ≡ false
unfolding whole decs
whole_bad zero h p x = absurd (let y : ⊥ = omega arith in y)
whole_bad (suc n) h p x = rw (x.is h) refl

list_step : {A : Type 0} (𝓐 : Codec A) (s : Bytes) (at next n : ℕ) → 0 < n → (a : A) → 𝓐.dec (drop at s) ≡ got a (drop next s) → whole 𝓐 (n - 1) s next ≡ true → list_at 𝓐 n s at ≡ a ∷ list_at 𝓐 (n - 1) s next
unfolding whole list_at decs
list_step 𝓐 s at next zero p a e g = absurd (let y : ⊥ = omega arith in y)
list_step 𝓐 s at next (suc n) p a e g = let m : suc n - 1 ≡ n = omega arith in rw (e, m) (cons_got a (decs 𝓐 n (drop next s)) (rw m at g))

-- one value read of a whole list
pub turn : {A : Type 0} {𝓐 : Codec A} {s : Bytes} (n : ℕ) {at next : ℕ} {W : A → Type 0} → whole 𝓐 n s at ≡ true → 0 < n → Found 𝓐 s at next W → Turn 𝓐 s n at next W
turn {A} {𝓐} {s} n {at} {next} {W} w p x =
    let st = whole_step n p x in
    record { item = x.value; is = x.fact; here = x.is; list = list_step 𝓐 s at next n p x.value x.is (sym st.0 ∙ w); rest = sym st.0 ∙ w; up = x.up; within = x.within }

pub none_left : {A : Type 0} (𝓐 : Codec A) (s : Bytes) (n at : ℕ) → n ≡ 0 → (list_at 𝓐 n s at ≡ []) × (whole 𝓐 n s at ≡ true) × (behind 𝓐 n s at ≡ drop at s)
unfolding whole list_at behind decs
none_left 𝓐 s n at z = rw z (refl, refl, refl)

pub values : {A : Type 0} (𝓐 : Codec A) (n : ℕ) (s : Bytes) (at : ℕ) → whole 𝓐 n s at ≡ true → drop at s ≡ encs 𝓐 (list_at 𝓐 n s at) ++ behind 𝓐 n s at
unfolding whole list_at behind
values {A} 𝓐 n s at w = go (decs 𝓐 n (drop at s)) refl w
  where
    go : (o : Got (List A)) → decs 𝓐 n (drop at s) ≡ o → is_got o ≡ true → drop at s ≡ encs 𝓐 (val_of o) ++ rest_of o
    go fail p w = false_true w
    go (got l r) p w = (vec_bwd 𝓐 n (drop at s) l r p).0

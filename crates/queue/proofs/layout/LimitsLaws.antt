-- The sixteen shares as their bytes: read, written, compared, one of them. Assumes nothing.
use Rattle.std.specs.Prelude.{◌≡◌, refl, Bool, true, false, ◌&&◌, List, [], ◌∷◌, ◌++◌, ℕ, zero, suc, ◌+◌, ◌-◌, ◌*◌, ◌/◌, ◌^◌, ◌≤◌, ◌<◌, leb, length, take, drop, get_or, replicate}
use Rattle.std.proofs.Common.{ap, sym, ◌∙◌, append-nil, arith, le_of_suc-le-suc, length-take, length-drop, length-append, drop_of_length-le, drop-drop, take_at, drop_at, take-take, take_all, get_or-take, get_or-drop, le-leb}
use Rattle.std.proofs.lemmas.Bool.{lt-leb}
use Rattle.queue.specs.Codec as codec
use Rattle.queue.specs.Codec.{got, All, all_append, be_c, decs, encs, vec_c, vec_bwd, be_length}
use Rattle.queue.specs.layout.Choice.{fix_c}
use Rattle.queue.specs.bytes.PutAs.{Put, be_last}
use Rattle.queue.specs.bytes.ViewAs.{view}
use Rattle.queue.specs.layout.FrameCodec.{sixteen_c, shares_c}
use Rattle.queue.specs.bytes.ReaderAs.{Fails, Found, Stands}
use Rattle.queue.specs.bytes.ReaderLaws.{SmallAt, be_at, be_here, not_spanned, spans_be, spans_vec}
use Rattle.queue.specs.theorems.Plain.{numbers_plain}
use Rattle.queue.specs.layout.FrameAs.{SharesAs}
use Rattle.queue.specs.layout.LimitsAs.{LentShares, val_be}
use Rattle.queue.specs.paper.Records.{Bytes}
use Rattle.queue.specs.paper.Lists.{all?, map}
use Rattle.queue.specs.paper.Kinds.{has_callers, first_share}
use Rattle.queue.specs.paper.Area.{be_val, shares_bytes, over}
use Rattle.queue.specs.paper.Calls.{pieces, items, numbers}
use Rattle.queue.proofs.bytes.PutLaws.{put_over}
use Rattle.queue.proofs.bytes.PutByteLaws.{be_same, be_val_law, drop_take}

-- n numbers of 4 bytes from `at` on
unfoldable pub fours : ℕ → Bytes → ℕ → List ℕ
fours zero s at = []
fours (suc n) s at = be_at 4 s at ∷ fours n s (at + 4)

fours_pieces : (n : ℕ) (s : Bytes) (at : ℕ) → at + 4 * n ≤ length s → map be_val (pieces 4 n (drop at s)) ≡ fours n s at
unfolding fours
fours_pieces zero s at h = refl
fours_pieces (suc n) s at h =
    ap (λ (x : Bytes). be_val (take 4 (drop at s)) ∷ map be_val (pieces 4 n x)) (drop-drop 4 at s)
    ∙ ap (λ (l : List ℕ). be_val (take 4 (drop at s)) ∷ l) (fours_pieces n s (at + 4) (omega arith))
    ∙ ap (λ (v : ℕ). v ∷ fours n s (at + 4)) (sym (be_val_law 4 s at (omega arith)))

numbers_64 : (s : Bytes) → length s ≡ 64 → numbers s ≡ map be_val (pieces 4 16 s)
unfolding items
numbers_64 s h = ap (λ (k : ℕ). map be_val (pieces 4 (k / 4) s)) h

pub numbers_are : (s : Bytes) → length s ≡ 64 → numbers s ≡ fours 16 s 0
numbers_are s h = numbers_64 s h ∙ fours_pieces 16 s 0 (omega arith)

fours_length : (n : ℕ) (s : Bytes) (at : ℕ) → length (fours n s at) ≡ n
unfolding fours
fours_length zero s at = refl
fours_length (suc n) s at = ap suc (fours_length n s (at + 4))

pub sixteen : (s : Bytes) → length s ≡ 64 → length (numbers s) ≡ 16
sixteen s h = ap length (numbers_are s h) ∙ fours_length 16 s 0

-- ---- compared with P
fours_next : (n : ℕ) (s : Bytes) (at : ℕ) → 0 < n → fours n s at ≡ be_at 4 s at ∷ fours (n - 1) s (at + 4)
unfolding fours
fours_next zero s at h = absurd (omega arith)
fours_next (suc n) s at h = ap (λ (k : ℕ). be_at 4 s at ∷ fours k s (at + 4)) (let e : n ≡ suc n - 1 = omega arith in e)

-- those before the i-th are at most p
pub record Fitting (s : Bytes) (p i : ℕ) : Type 0 where
  pub rest : all? (λ k. leb k p) (fours 16 s 0) ≡ all? (λ k. leb k p) (fours (16 - i) s (4 * i))

pub fitting_first : (s : Bytes) (p : ℕ) → Fitting s p 0
fitting_first s p = record { rest = refl }

module _ {s : Bytes} {p i v : ℕ} (w : Fitting s p i) (h : i < 16) (e : v ≡ be_at 4 s (4 * i)) where
  fitting_turn : all? (λ k. leb k p) (fours 16 s 0) ≡ (leb v p && all? (λ k. leb k p) (fours (16 - (i + 1)) s (4 * (i + 1))))
  fitting_turn =
      let a : 16 - i - 1 ≡ 16 - (i + 1) = omega arith in
      let b : 4 * i + 4 ≡ 4 * (i + 1) = omega arith in
      w.rest ∙ ap (all? (λ k. leb k p)) (fours_next (16 - i) s (4 * i) (omega arith)) ∙ rw (a, b, e) refl

  pub fitting_out : length s ≡ 64 → p < v → false ≡ all? (λ k. leb k p) (numbers s)
  fitting_out l k = sym (ap (all? (λ k. leb k p)) (numbers_are s l) ∙ fitting_turn ∙ ap (λ (b : Bool). b && all? (λ k. leb k p) (fours (16 - (i + 1)) s (4 * (i + 1)))) (lt-leb v p k))

  pub fitting_next : v ≤ p → Fitting s p (i + 1)
  fitting_next k = record { rest = fitting_turn ∙ ap (λ (b : Bool). b && all? (λ k. leb k p) (fours (16 - (i + 1)) s (4 * (i + 1)))) (le-leb v p k) }

pub fitting_end : {s : Bytes} {p i : ℕ} → Fitting s p i → length s ≡ 64 → 16 ≤ i → true ≡ all? (λ k. leb k p) (numbers s)
unfolding fours
fitting_end {s} {p} {i} w l h = sym (ap (all? (λ k. leb k p)) (numbers_are s l) ∙ w.rest ∙ ap (λ (k : ℕ). all? (λ k. leb k p) (fours k s (4 * i))) (let e : 16 - i ≡ 0 = omega arith in e))

-- ---- one of them
fours_one : (n c : ℕ) (s : Bytes) (at : ℕ) → c < n → get_or (fours n s at) c 0 ≡ be_at 4 s (at + 4 * c)
unfolding fours
fours_one zero c s at h = absurd (omega arith)
fours_one (suc n) zero s at h = ap (be_at 4 s) (let e : at ≡ at + 4 * 0 = omega arith in e)
fours_one (suc n) (suc c) s at h = fours_one n c s (at + 4) (omega arith) ∙ ap (be_at 4 s) (let e : at + 4 + 4 * c ≡ at + 4 * suc c = omega arith in e)

pub share_is : (s : Bytes) (c : ℕ) {v : ℕ} → length s ≡ 64 → c ≤ 15 → v ≡ be_at 4 s (4 * c) → v ≡ get_or (numbers s) c 0
share_is s c l h e = e ∙ sym (ap (λ (k : List ℕ). get_or k c 0) (numbers_are s l) ∙ fours_one 16 c s 0 (omega arith) ∙ ap (be_at 4 s) (let z : 0 + 4 * c ≡ 4 * c = omega arith in z))

-- ---- read
decs_fours : (n : ℕ) (s : Bytes) (at : ℕ) → at + 4 * n ≤ length s → SmallAt s → decs (be_c 4) n (drop at s) ≡ got (fours n s at) (drop (at + 4 * n) s)
unfolding fours be_c decs
decs_fours zero s at h k = ap (λ (j : ℕ). got [] (drop j s)) (let e : at ≡ at + 4 * 0 = omega arith in e)
decs_fours (suc n) s at h k =
    let i = decs_fours n s (at + 4) (omega arith) k in
    rw (be_here 4 s at (omega arith) k, i) (ap (λ (j : ℕ). got (be_at 4 s at ∷ fours n s (at + 4)) (drop j s)) (let e : at + 4 + 4 * n ≡ at + 4 * suc n = omega arith in e))

pieces_take : (n m : ℕ) (l : Bytes) → pieces 4 n (take (4 * n + m) l) ≡ pieces 4 n l
pieces_take zero m l = refl
pieces_take (suc n) m l =
    let k : Bytes = take (4 * suc n + m) l in
    let e : 4 * suc n + m ≡ 4 + (4 * n + m) = omega arith in
    let a : take 4 k ≡ take 4 l = take-take 4 (4 * suc n + m) l (omega arith) in
    let b : drop 4 k ≡ take (4 * n + m) (drop 4 l) = ap (λ (j : ℕ). drop 4 (take j l)) e ∙ drop_take 4 (4 * n + m) l in
    ap (λ (x : Bytes). x ∷ pieces 4 n (drop 4 k)) a ∙ ap (λ (x : Bytes). take 4 l ∷ pieces 4 n x) b ∙ ap (λ (x : List Bytes). take 4 l ∷ x) (pieces_take n m (drop 4 l))

part_small : (a n : ℕ) (l : Bytes) → SmallAt l → SmallAt (take n (drop a l))
part_small a n l h j k =
    let m = length-take n (drop a l) in
    let c = length-drop a l in
    let lo : j < n = omega arith in
    let hi : a + j < length l = omega arith in
    rw (get_or-take n (drop a l) j 0 lo, get_or-drop a l j 0) (h (a + j) hi)

pub shares_is : (k : ℕ) (p : ℕ) {v : Bytes} {at next : ℕ} {d d' : Bytes} {o : ℕ} → has_callers k ≡ true → Stands v at 64 next → length d ≡ 64 → Put d 0 (take 64 (drop at v)) 64 o d' → Found (shares_c k p) v at next (SharesAs d')
unfolding sixteen_c vec_c over
shares_is k p {v} {at} {next} {d} {d'} t u l y =
    let z : drop (length (take 64 (drop at v))) d ≡ [] = drop_of_length-le d {i = length (take 64 (drop at v))} (omega (arith, y.size)) in
    let e : d' ≡ take 64 (drop at v) = sym (put_over y (omega arith)) ∙ ap (λ (z : Bytes). take 64 (drop at v) ++ z) z ∙ append-nil (take 64 (drop at v)) in
    let l' : length d' ≡ 64 = ap length e ∙ y.size in
    let is : numbers d' ≡ fours 16 v at = numbers_64 d' l' ∙ ap (λ (b : Bytes). map be_val (pieces 4 16 b)) e ∙ ap (map be_val) (pieces_take 16 0 (drop at v)) ∙ fours_pieces 16 v at (omega (arith, u.within)) in
    let small : SmallAt d' = rw e (part_small at 64 v u.small) in
    let ends : at + 4 * 16 ≡ next = omega (arith, u.is) in
    rw t (record {
      value = fours 16 v at;
      is = decs_fours 16 v at (omega (arith, u.within)) u.small ∙ ap (λ (j : ℕ). got (fours 16 v at) (drop j v)) ends;
      up = omega (arith, u.is);
      within = omega (arith, u.is, u.within);
      fact = record { is = is; long = l'; small = small };
    })

pub shares_fail : (k p : ℕ) {v : Bytes} {at : ℕ} → has_callers k ≡ true → length v < at + 64 → Fails (shares_c k p) v at
unfolding sixteen_c
shares_fail k p t h = rw t (not_spanned (spans_vec (spans_be 4) 16) h)

all_small : (l : Bytes) → All (λ b. b < 256) l → SmallAt l
all_small [] h j k = absurd (let y : ⊥ = omega arith in y)
all_small (b ∷ l) h zero k = h.0
all_small (b ∷ l) h (suc j) k = all_small l h.1 j (le_of_suc-le-suc k)

all_zeros : (n : ℕ) → All (λ b. b < 256) (replicate n 0)
all_zeros zero = tt
all_zeros (suc n) = (omega arith, all_zeros n)

four_all : (p : ℕ) → p < 256 ^ 4 → All (λ b. b < 256) (codec.be 4 p)
unfolding be_c
four_all p h = (be_c 4).small p h

-- P, and zeros behind it
zero_numbers : map be_val (pieces 4 15 (replicate 60 0)) ≡ replicate 15 0
unfolding be_val
zero_numbers = refl

first_numbers : (p : ℕ) (b : Bytes) → length b ≡ 4 → be_val b ≡ p → map be_val (pieces 4 16 (b ++ replicate 60 0)) ≡ first_share p
first_numbers p b l e =
    ap (λ (x : Bytes). be_val x ∷ map be_val (pieces 4 15 (drop 4 (b ++ replicate 60 0)))) (take_at b (replicate 60 0) 4 l)
    ∙ ap (λ (x : Bytes). be_val b ∷ map be_val (pieces 4 15 x)) (drop_at b (replicate 60 0) 4 l)
    ∙ ap (λ (x : ℕ). x ∷ map be_val (pieces 4 15 (replicate 60 0))) e
    ∙ ap (λ (x : List ℕ). p ∷ x) zero_numbers

pub shares_first : {p : ℕ} {d' : Bytes} {o : ℕ} → p < 4294967296 → Put (replicate 64 0) 0 (be_last 4 p) 4 o d' → (numbers d' ≡ first_share p) × (length d' ≡ 64) × SmallAt d'
unfolding over
shares_first {p} {d'} h y =
    let b : Bytes = codec.be 4 p in
    let c : be_last 4 p ≡ b = be_same 4 p h in
    let l = be_length 4 p in
    let e : d' ≡ b ++ replicate 60 0 = sym (put_over y (omega arith)) ∙ ap (λ (x : Bytes). x ++ drop (length x) (replicate 64 0)) c ∙ ap (λ (j : ℕ). b ++ drop j (replicate 64 0)) l in
    let l' : length d' ≡ 64 = ap length e ∙ length-append b (replicate 60 0) ∙ omega arith in
    let is : numbers d' ≡ first_share p = numbers_64 d' l' ∙ ap (λ (x : Bytes). map be_val (pieces 4 16 x)) e ∙ first_numbers p b l (val_be 4 p h) in
    let small : SmallAt d' = rw e (all_small (b ++ replicate 60 0) (all_append (λ b. b < 256) b (replicate 60 0) (four_all p h) (all_zeros 60))) in
    (is, l', small)

pub shares_no : (k : ℕ) (p : ℕ) {v : Bytes} {at : ℕ} {d' : Bytes} {o : ℕ} → has_callers k ≡ false → at ≤ length v → p < 4294967296 → Put (replicate 64 0) 0 (be_last 4 p) 4 o d' → Found (shares_c k p) v at at (SharesAs d')
unfolding fix_c
shares_no k p t m h y =
    let u = shares_first h y in
    rw t (record { value = first_share p; is = refl; up = omega arith; within = m; fact = record { is = u.0; long = u.1; small = u.2 } })

-- ---- written
pub shares_bytes_law : (s : Bytes) → length s ≡ 64 → SmallAt s → shares_bytes (numbers s) ≡ s
shares_bytes_law s l h =
    let d = decs_fours 16 s 0 (omega arith) h in
    let e = (vec_bwd (be_c 4) 16 (drop 0 s) (fours 16 s 0) (drop (0 + 4 * 16) s) d).0 in
    let z : drop 64 s ≡ [] = drop_of_length-le s {i = 64} (omega arith) in
    ap shares_bytes (numbers_are s l) ∙ sym (numbers_plain (fours 16 s 0)) ∙ sym (e ∙ ap (λ (x : Bytes). encs (be_c 4) (fours 16 s 0) ++ x) z ∙ append-nil (encs (be_c 4) (fours 16 s 0)))

-- zeros are within every P
pub zeros_fit : (p : ℕ) → all? (λ k. leb k p) (numbers (replicate 64 0)) ≡ true
unfolding items be_val
zeros_fit p = rw (le-leb 0 p (omega arith))

-- ---- lent
pub shares_lent : {s d d' : Bytes} {o n : ℕ} → n ≡ length (view false s 0) → SmallAt (view false s 0) → n ≡ 64 → length d ≡ 64 → Put d 0 (take 64 (drop 0 s)) 64 o d' → LentShares s d'
unfolding view over
shares_lent {s} {d} {d'} m h f l y =
    let ls : length s ≡ 64 = sym m ∙ f in
    let z : drop (length (take 64 s)) d ≡ [] = drop_of_length-le d {i = length (take 64 s)} (omega (arith, y.size)) in
    let e : d' ≡ s = sym (put_over y (omega arith)) ∙ ap (λ (z : Bytes). take 64 s ++ z) z ∙ append-nil (take 64 s) ∙ take_all 64 s (omega arith) in
    record { long = ap length e ∙ ls; small = rw e h; whole = λ _. e; zeros = λ n. absurd (n ls) }

pub shares_none : {s : Bytes} {n : ℕ} → n ≡ length (view false s 0) → (n ≡ 64 → ⊥) → LentShares s (replicate 64 0)
unfolding view
shares_none {s} m h = record { long = refl; small = all_small (replicate 64 0) (all_zeros 64); whole = λ e. absurd (h (m ∙ e)); zeros = λ _. refl }

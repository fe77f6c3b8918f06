-- The shares as they are lent to a fresh queue: a list of 64 bytes; and those of a queue, lent again, are its own.
use Rattle.std.specs.Prelude.{◌≡◌, refl, true, List, [], ◌∷◌, ◌++◌, ℕ, zero, suc, ◌+◌, ◌*◌, ◌/◌, ◌%◌, ◌^◌, ◌≤◌, ◌<◌, leb, eqb, length, drop, replicate, ◌≢◌}
use Rattle.std.proofs.Common.{ap, sym, ◌∙◌, arith, div-add-mod', mod-lt, pow-suc, length-append, take_at, drop_at, leb-true, eqb-true}
use Rattle.queue.specs.Codec.{All, be, be_length}
use Rattle.queue.specs.Lists.{and_true}
use Rattle.queue.specs.bytes.ReaderLaws.{SmallAt}
use Rattle.queue.specs.theorems.SoundParts.{range_of}
use Rattle.queue.specs.paper.Records.{Bytes, Limits}
use Rattle.queue.specs.paper.Lists.{all?, map}
use Rattle.queue.specs.paper.Sound.{shares_right?, limits_right?}
use Rattle.queue.specs.paper.Area.{be_val, shares_bytes}
use Rattle.queue.specs.paper.Calls.{pieces, items, numbers, limits_of}

-- as they are lent where they are whole, else zeros
pub record LentShares (s r : Bytes) : Type 0 where
  pub long : length r ≡ 64
  pub small : SmallAt r
  pub whole : length s ≡ 64 → r ≡ s
  pub zeros : (length s ≢ 64) → r ≡ replicate 64 0

pub pos256 : (n : ℕ) → 0 < 256 ^ n
pos256 zero = omega arith
pos256 (suc n) = let h = pos256 n in rw pow-suc (omega arith)

-- the number that its bytes are
pub val_be : (n v : ℕ) → v < 256 ^ n → be_val (be n v) ≡ v
unfolding be_val
val_be zero v h = omega arith
val_be (suc n) v h =
    let p = pos256 n in
    let i = val_be n (v % 256 ^ n) (mod-lt v p) in
    let l = be_length n (v % 256 ^ n) in
    ap (λ (k : ℕ). v / 256 ^ n * 256 ^ k + be_val (be n (v % 256 ^ n))) l ∙ ap (λ (k : ℕ). v / 256 ^ n * 256 ^ n + k) i ∙ div-add-mod' v (256 ^ n)

pub shares_long : (l : List ℕ) → length (shares_bytes l) ≡ 4 * length l
unfolding shares_bytes
shares_long [] = refl
shares_long (n ∷ l) = let a = be_length 4 n in let i = shares_long l in length-append (be 4 n) (shares_bytes l) ∙ omega arith

pieces_of : (l : List ℕ) → All (λ n. n < 256 ^ 4) l → map be_val (pieces 4 (length l) (shares_bytes l)) ≡ l
unfolding shares_bytes
pieces_of [] h = refl
pieces_of (n ∷ l) h =
    ap (λ (x : Bytes). be_val x ∷ map be_val (pieces 4 (length l) (drop 4 (be 4 n ++ shares_bytes l)))) (take_at (be 4 n) (shares_bytes l) 4 (be_length 4 n))
    ∙ ap (λ (x : Bytes). be_val (be 4 n) ∷ map be_val (pieces 4 (length l) x)) (drop_at (be 4 n) (shares_bytes l) 4 (be_length 4 n))
    ∙ ap (λ (x : ℕ). x ∷ map be_val (pieces 4 (length l) (shares_bytes l))) (val_be 4 n h.0)
    ∙ ap (λ (x : List ℕ). n ∷ x) (pieces_of l h.1)

numbers_of_law : (l : List ℕ) → length l ≡ 16 → All (λ n. n < 256 ^ 4) l → numbers (shares_bytes l) ≡ l
unfolding items
numbers_of_law l e h =
    let k : length (shares_bytes l) ≡ 64 = shares_long l ∙ omega arith in
    ap (λ (j : ℕ). map be_val (pieces 4 (j / 4) (shares_bytes l))) k ∙ ap (λ (j : ℕ). map be_val (pieces 4 j (shares_bytes l))) (sym e) ∙ pieces_of l h

few : (P : ℕ) (l : List ℕ) → P ≤ 1024 → all? (λ n. leb n P) l ≡ true → All (λ n. n < 256 ^ 4) l
few P [] h e = tt
few P (n ∷ l) h e = let t = and_true (leb n P) _ e in let k = leb-true n P t.0 in (omega arith, few P l h t.1)

module _ (m : Limits) (e : limits_right? m ≡ true) where
  parts : (length m.shares ≡ 16) × All (λ n. n < 256 ^ 4) m.shares
  unfolding shares_right?
  parts =
      let r = range_of m e in
      let s = and_true (eqb (length m.shares) 16) (all? (λ n. leb n m.P) m.shares) r.shares in
      (eqb-true (length m.shares) 16 s.0, few m.P m.shares r.P-high s.1)

  pub shares_whole : length (shares_bytes m.shares) ≡ 64
  shares_whole = let p = parts.0 in shares_long m.shares ∙ omega arith

  -- lent again
  pub limits_again : limits_of m.P m.B m.T m.K (shares_bytes m.shares) ≡ m
  limits_again = ap (λ (l : List ℕ). record { P = m.P; B = m.B; T = m.T; K = m.K; shares = l }) (numbers_of_law m.shares parts.0 parts.1)

-- what the highest limits need
abbrev pub need_most : ℕ
need_most = 60293632

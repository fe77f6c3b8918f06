-- The laws of the readers of bytes. Assumes nothing.
use Rattle.std.specs.Prelude.{◌≡◌, refl, Bool, true, false, not, ◌&&◌, [], ◌∷◌, ℕ, zero, suc, ◌+◌, ◌*◌, ◌^◌, ◌≤◌, ◌<◌, ltb, length, drop, take, get_or, Some, None}
use Rattle.std.proofs.Common.{ap, sym, ◌∙◌, arith, mul-le-mul, le_trans, le_of_lt, add-one, lit<, drop-cons, take_at, lt-ltb, eq-eqb, ne_eqb}
use Rattle.std.proofs.Math.Nat.{pow-le-pow_right}
use Rattle.queue.specs.Codec.{Bytes, fail, byte_c, be_c, opt_c, vec_c, encs}
use Rattle.queue.specs.paper.Records.{Id}
use Rattle.queue.specs.layout.FrameCodec.{tag_c, tag_dec, id_c, spans_id}
use Rattle.queue.specs.bytes.Parts.{part}
use Rattle.queue.specs.bytes.ReaderAs.{Fails, Found, Stands, option_of, flag_dec, flag_c}
use Rattle.queue.specs.bytes.ReaderLaws.{drop_none, be_at, be_here, opt_absent, opt_present}

pub few : (w size k : ℕ) → w ≤ 4 → size ≤ 32 → k < 256 ^ w → k * size ≤ 2 ^ 32 * 32
few w size k hw hs hk = mul-le-mul (le_trans (le_of_lt hk) (pow-le-pow_right (lit< tt) hw)) hs

-- ---- numbers, ids
pub number_is : {s : Bytes} {at n next v : ℕ} → Stands s at n next → v ≡ be_at n s at → Found (be_c n) s at next (λ a. a ≡ v)
unfolding be_c
number_is {s} {at} {n} x e = record { value = be_at n s at; is = be_here n s at x.within x.small ∙ rw x.is refl; up = omega (arith, x.is); within = omega (arith, x.is, x.within); fact = sym e }

pub bytes_enc : (l : Bytes) → encs byte_c l ≡ l
unfolding encs byte_c
bytes_enc [] = refl
bytes_enc (b ∷ l) = ap (λ z. b ∷ z) (bytes_enc l)

pub id_enc : (y : Id) → id_c.enc y ≡ y
unfolding id_c vec_c
id_enc y = bytes_enc y

pub id_is : {s : Bytes} {at next : ℕ} {v : Id} → Stands s at 32 next → v ≡ part 32 s at → Found id_c s at next (λ a. a ≡ v)
unfolding id_c vec_c part
id_is {s} {at} x e = let a = spans_id.all s at x.within x.small in
    let b = id_c.bwd (drop at s) a.0 (drop (at + 32) s) a.1 in
    record {
      value = a.0;
      is = a.1 ∙ rw x.is refl;
      up = omega (arith, x.is);
      within = omega (arith, x.is, x.within);
      fact = sym (bytes_enc a.0) ∙ sym (take_at (encs byte_c a.0) (drop (at + 32) s) 32 (spans_id.size a.0 b.1)) ∙ ap (take 32) (sym b.0) ∙ sym e;
    }

-- ---- a tag
and_none : (a : Bool) → (a && false) ≡ false
and_none true = refl
and_none false = refl

module _ (n : ℕ) {s : Bytes} {at : ℕ} where
  pub tag_none : length s ≤ at → Fails (tag_c n) s at
  unfolding tag_c tag_dec
  tag_none k = record { is = λ _. rw (drop_none s at k) refl }

  pub tag_is : at < length s → get_or s at 0 < 256 → get_or s at 0 ≡ n → Found (tag_c n) s at (at + 1) (λ _. Unit {0})
  unfolding tag_c tag_dec
  tag_is k l e =
      let h : ltb n 256 ≡ true = lt-ltb n 256 (omega arith) in
      record { value = tt; is = rw (drop-cons s at 0 k, e, h, eq-eqb n n refl, add-one) refl; up = omega arith; within = omega arith; fact = tt }

  pub tag_other : at < length s → (get_or s at 0 ≡ n → ⊥) → Fails (tag_c n) s at
  unfolding tag_c tag_dec
  tag_other k q = record { is = λ _. rw (drop-cons s at 0 k, ne_eqb (get_or s at 0) n q) (rw (and_none (ltb n 256)) refl) }

-- ---- a flag
pub flag_none : {s : Bytes} {at : ℕ} → length s ≤ at → Fails flag_c s at
unfolding flag_c flag_dec
flag_none {s} {at} k = record { is = λ _. rw (drop_none s at k) refl }

module _ {s : Bytes} {at b : ℕ} where
  pub flag_zero : at < length s → b ≡ get_or s at 0 → b ≡ 0 → Found flag_c s at (at + 1) (λ b. false ≡ b)
  unfolding flag_c flag_dec
  flag_zero k q e = record { value = false; is = rw (drop-cons s at 0 k, ← q, e, add-one) refl; up = omega arith; within = omega arith; fact = refl }

  pub flag_one : at < length s → b ≡ get_or s at 0 → b ≡ 1 → Found flag_c s at (at + 1) (λ b. true ≡ b)
  unfolding flag_c flag_dec
  flag_one k q e = record { value = true; is = rw (drop-cons s at 0 k, ← q, e, add-one) refl; up = omega arith; within = omega arith; fact = refl }

flag_dec_law : (b : ℕ) (r : Bytes) → (b ≡ 0 → ⊥) → (b ≡ 1 → ⊥) → flag_dec (b ∷ r) ≡ fail
unfolding flag_dec
flag_dec_law zero r p q = absurd (p refl)
flag_dec_law (suc zero) r p q = absurd (q refl)
flag_dec_law (suc (suc n)) r p q = refl

pub flag_other : {s : Bytes} {at b : ℕ} → at < length s → b ≡ get_or s at 0 → (b ≡ 0 → ⊥) → (b ≡ 1 → ⊥) → Fails flag_c s at
unfolding flag_c
flag_other {s} {at} {b} k e p q = record { is = λ _. rw (drop-cons s at 0 k, ← e) (flag_dec_law b (drop (suc at) s) p q) }

-- a flag tested
pub is_false : (b : Bool) → not b ≡ true → b ≡ false
is_false true e = cc
is_false false e = refl

pub is_true : (b : Bool) → not b ≡ false → b ≡ true
is_true true e = refl
is_true false e = cc

-- ---- a flag and a number
module _ {s : Bytes} {at m : ℕ} {flag : Bool} (x : Found flag_c s at m (λ b. flag ≡ b)) (n : ℕ) where
  pub no_number : flag ≡ false → Found (opt_c (be_c n)) s at m (λ o. option_of o ≡ None)
  no_number z = opt_absent (be_c n) x z (λ o. option_of o ≡ None) refl

  pub some_number : {next v : ℕ} → flag ≡ true → Found (be_c n) s m next (λ a. a ≡ v) → Found (opt_c (be_c n)) s at next (λ o. option_of o ≡ Some v)
  some_number {next} {v} z y = opt_present (be_c n) x z y (λ o. option_of o ≡ Some v) (λ e. ap Some e)

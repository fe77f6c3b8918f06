-- The counters' loops, and that the list they make is the parents-first order. Assumes nothing.
use Rattle.std.specs.Prelude.{◌≡◌, refl, Bool, true, false, cond, not, ◌&&◌, ◌||◌, List, [], ◌∷◌, ◌++◌, ℕ, zero, suc, ◌+◌, ◌-◌, ◌*◌, ◌/◌, ◌%◌, ◌^◌, ◌≤◌, ◌<◌, ltb, eqb, length, take, drop, get_or, set, replicate}
use Rattle.std.proofs.Common.{ap, sym, ◌∙◌, subst, append_assoc, append-nil, arith, pow-suc, pow_pos, div-one, div-add-mod', add-zero, suc-mul, zero-mul, mul-le-mul_right, mul_comm, le_of_suc-le-suc, div-lt_iff_lt-mul, add-one, length-set, length-append, take-append-drop, get_or-set_same, get_or-set_other, take-suc-set, length-take-le, eqb-true, eq-eqb, ne_eqb, ltb-true, ltb-false, lt-ltb, le-ltb}
use Rattle.std.proofs.Math.Option.{none, some}
use Rattle.std.proofs.Math.Nat.{pow-succ', div-div-eq-div-mul}
use Rattle.std.proofs.Math.Arith.{digits_mod}
use Rattle.std.proofs.Math.Seq.{set_out}
use Rattle.std.proofs.lemmas.List.{length-replicate, set-get_or}
use Rattle.std.proofs.lemmas.Bool.{eqb-false, not-true, not-false}
use Rattle.std.specs.Int.Bits.{block_half, block_odd}
use Rattle.queue.specs.Areas.{read_area}
use Rattle.queue.specs.Basics.{cons_same, any_same}
use Rattle.queue.specs.Codec as codec
use Rattle.queue.specs.Codec.{All, cases}
use Rattle.queue.specs.Lists.{Pairwise, and_true, all_map, sub_all}
use Rattle.queue.specs.bytes.ListLaws.{filter_sub, sort_apart, sort_all}
use Rattle.queue.specs.read.parents.Laws.{option_cases}
use Rattle.queue.specs.bytes.OrderLaws.{same_self, same_sym, below_not_same, or_true}
use Rattle.queue.specs.bytes.ReaderLaws.{false_true}
use Rattle.queue.specs.bytes.PutAs.{Put, be_last}
use Rattle.queue.specs.theorems.SoundParts.{Before, InRange, sound_of_law}
use Rattle.queue.specs.layout.FormsCodec.{queue_c}
use Rattle.queue.specs.check.AreaAs.{AreaAs, records_of}
use Rattle.queue.specs.Areas.{layout, read_area, stands_reads, reads_stands}
use Rattle.queue.specs.Checked.{Written, written}
use Rattle.queue.specs.read.SelectAs.{Row, ahead?, id_at, RowsAs, chosen, Selected}
use Rattle.queue.specs.read.FeesAs.{no_rec, rec_at_value, rec_of_row, Known}
use Rattle.queue.specs.read.fees.Laws as laws
use Rattle.queue.specs.read.parents.Counters.{first_one, raise, lower, counted, picks, start, by_counters, Kids, rows_at}
use Rattle.queue.specs.read.parents.CounterLaws.{lower_length, raise_length, counted_length, by_counters_law}
use Rattle.queue.specs.read.LinksAs.{Ones, wants_at, outs_at, Modest, Short, Named, bit_l, bit_at, Joined, Zero, outputs_linked, ones, word_ones, kids_of, Few, Clear, Lowered}
use Rattle.queue.specs.paper.Records.{Bytes, Id, Rec, Queue}
use Rattle.queue.specs.paper.Lists.{any?, sort, map, concat}
use Rattle.queue.specs.paper.Ids.{same?}
use Rattle.queue.specs.paper.Sound.{among?, need}
use Rattle.queue.specs.paper.Reading.{first?, selected?}
use Rattle.queue.specs.paper.Calls.{ids_bytes, told_out, read_of}
use Rattle.queue.specs.paper.Parents.{waits_for?, parents_first_value, parents_first_of}
use Rattle.queue.specs.declared.Kind.TheVariants.{Nothing}
use Rattle.queue.specs.paper.Answer.{Refused, Done}
use Rattle.queue.specs.declared.check.area.Area.{Area}
use Rattle.queue.proofs.bytes.PutLaws.{then, recast}
use Rattle.queue.proofs.bytes.PutByteLaws.{be_same}
use Rattle.queue.proofs.read.ReadingLaws.{told_4, told_100}
use Rattle.queue.proofs.read.SelectLaws.{ids_size, chosen_is}
use Rattle.queue.proofs.read.FeesLaws.{get_d_map, known_at, places_known, rows_known, rows_recs, selected_recs}
use Rattle.queue.proofs.check.AreaLaws.{product}
use Rattle.queue.proofs.read.LinksBitLaws.{kids_any, line_in, lines_room}
use Rattle.queue.specs.layout.LimitsAs.{need_most}

-- ---- ones
pub few_ones : (n : ℕ) {cs : List ℕ} → cs ≡ replicate n 1 → Few 1 cs
few_ones n e = rw e (record { all = go n })
  where
    go : (n j : ℕ) → get_or (replicate n 1) j 0 ≤ 1
    go zero j = omega arith
    go (suc n) zero = omega arith
    go (suc n) (suc j) = go n j

-- ---- one counter
pub raise_off : (odd : Bool) (a cs : List ℕ) → not odd ≡ true → cs ≡ cond odd a cs
raise_off odd a cs t = rw (not-true odd t)

pub raise_out : (odd : Bool) (k x : ℕ) (cs : List ℕ) → not odd ≡ false → length cs ≤ k → cs ≡ cond odd (set cs k x) cs
raise_out odd k x cs t h = rw (not-false odd t) (sym (set_out cs k x h))

pub raise_in : (odd : Bool) (a cs : List ℕ) → not odd ≡ false → a ≡ cond odd a cs
raise_in odd a cs t = rw (not-false odd t)

few_there : (b : ℕ) (cs : List ℕ) (k : ℕ) → Few b cs → Few (b + 1) (set cs k (get_or cs k 0 + 1))
few_there b cs k h = record {
  all = λ j. cases (eqb j k)
      (λ t. let e = eqb-true j k t in rw e (here cs k (h.all k)))
      (λ t. let e = get_or-set_other cs k j (get_or cs k 0 + 1) 0 (eqb-false j k t) in let z = h.all j in omega arith);
}
  where
    here : (cs : List ℕ) (k : ℕ) → get_or cs k 0 ≤ b → get_or (set cs k (get_or cs k 0 + 1)) k 0 ≤ b + 1
    here [] k z = omega arith
    here (c ∷ cs) zero z = omega arith
    here (c ∷ cs) (suc k) z = here cs k z

pub few_more : (odd : Bool) (b : ℕ) {cs : List ℕ} (k : ℕ) {cs' : List ℕ} → Few b cs → cs' ≡ cond odd (set cs k (get_or cs k 0 + 1)) cs → Few (b + 1) cs'
few_more odd b {cs} k h e = rw e (cases odd (λ t. rw t (few_there b cs k h)) (λ t. rw t (record { all = λ j. let z = h.all j in omega arith })))

pub few_to : (b c : ℕ) {cs : List ℕ} → b ≤ c → Few b cs → Few c cs
few_to b c h f = record { all = λ j. let z = f.all j in omega arith }

pub lower_off : (odd : Bool) (a cs : List ℕ) {from : ℕ} → not odd ≡ true → Lowered cs from (cond odd a cs) from cs
lower_off odd a cs t = record { is = rw (not-true odd t); clear = λ c. c }

pub lower_out : (odd : Bool) (k x : ℕ) (cs : List ℕ) {from : ℕ} → not odd ≡ false → length cs ≤ k → Lowered cs from (cond odd (set cs k x) cs) from cs
lower_out odd k x cs t h = record { is = rw (not-false odd t) (sym (set_out cs k x h)); clear = λ c. c }

pub lower_idle : (odd : Bool) (k : ℕ) (cs : List ℕ) {from : ℕ} → not odd ≡ false → get_or cs k 0 ≡ 0 → Lowered cs from (cond odd (set cs k (get_or cs k 0 - 1)) cs) from cs
lower_idle odd k cs t e = record {
  is = rw (not-false odd t) (let z : get_or cs k 0 - 1 ≡ get_or cs k 0 = omega arith in sym (ap (λ (x : ℕ). set cs k x) z ∙ set-get_or cs k 0));
  clear = λ c. c;
}

module _ (odd : Bool) {b : Bool} (k : ℕ) (cs : List ℕ) (from : ℕ) (t : not odd ≡ false) (l : k < length cs) (f : b ≡ (eqb (get_or cs k 0) 2 && ltb k from)) where
  pub lower_first : b ≡ true → Lowered cs from (cond odd (set cs k (get_or cs k 0 - 1)) cs) k (set cs k (get_or cs k 0 - 1))
  lower_first u =
      let o = and_true (eqb (get_or cs k 0) 2) (ltb k from) (sym f ∙ u) in
      let q = ltb-true k from o.1 in
      record {
        is = rw (not-false odd t);
        clear = λ c. record { all = λ j h e. c.all j (omega arith) (sym (get_or-set_other cs k j (get_or cs k 0 - 1) 0 (λ z. let y : ⊥ = omega arith in y)) ∙ e) };
      }

  pub lower_later : (get_or cs k 0 ≡ 0 → ⊥) → b ≡ false → Lowered cs from (cond odd (set cs k (get_or cs k 0 - 1)) cs) from (set cs k (get_or cs k 0 - 1))
  lower_later n u = record {
    is = rw (not-false odd t);
    clear = λ c. record {
      all = λ j h e. cases (eqb j k)
          (λ v.
          let q = eqb-true j k v in
          let d : get_or cs k 0 - 1 ≡ 1 = sym (get_or-set_same cs k (get_or cs k 0 - 1) 0 l) ∙ (rw q at e) in
          let two : get_or cs k 0 ≡ 2 = omega (arith, d) in
          false_true (sym u ∙ f ∙ rw (eq-eqb (get_or cs k 0) 2 two, lt-ltb k from (omega arith))))
          (λ v. c.all j h (sym (get_or-set_other cs k j (get_or cs k 0 - 1) 0 (eqb-false j k v)) ∙ e));
    };
  }

-- ---- the bits of a word, for rising and for falling
ones_none : (n j : ℕ) → ones n 0 j ≡ []
unfolding ones
ones_none zero j = refl
ones_none (suc n) j = ones_none n (j + 1)

ones_step : (n y j : ℕ) → ones (suc n) y j ≡ cond (eqb (y % 2) 1) (j ∷ ones n (y / 2) (j + 1)) (ones n (y / 2) (j + 1))
unfolding ones
ones_step n y j = refl

module _ (g : List ℕ → List ℕ → List ℕ) (st : List ℕ → ℕ → List ℕ) (nil : (cs : List ℕ) → g [] cs ≡ cs) (cons : (k : ℕ) (ks cs : List ℕ) → g (k ∷ ks) cs ≡ g ks (st cs k)) where
  pub record Sweep (x base : ℕ) (cs₀ : List ℕ) (y j : ℕ) (cs : List ℕ) : Type 0 where
    pub low : base ≤ j
    pub high : j ≤ base + 64
    pub small : y < 2 ^ (base + 64 - j)
    pub same : g (ones (base + 64 - j) y j) cs ≡ g (ones 64 x base) cs₀

  pub sweep_start : (x base : ℕ) (cs : List ℕ) → x < 2 ^ 64 → Sweep x base cs x base cs
  sweep_start x base cs h =
      let e : base + 64 - base ≡ 64 = omega arith in
      record { low = omega arith; high = omega arith; small = rw e h; same = rw e refl }

  module _ {x base : ℕ} {cs₀ : List ℕ} {y j : ℕ} {cs : List ℕ} (w : Sweep x base cs₀ y j cs) where
    pub sweep_room : 0 < y → j < base + 64
    sweep_room h = cases (ltb j (base + 64))
        (λ t. ltb-true j (base + 64) t)
        (λ t. let k = ltb-false j (base + 64) t in
        let e : base + 64 - j ≡ 0 = omega arith in
        let z : y < 2 ^ 0 = rw e at w.small in
        absurd (let o : ⊥ = omega arith in o))

    pub sweep_go : {cs' : List ℕ} → 0 < y → cs' ≡ cond (eqb (y % 2) 1) (st cs j) cs → Sweep x base cs₀ (y / 2) (j + 1) cs'
    sweep_go {cs'} h q =
        let r = sweep_room h in
        let n : ℕ = base + 64 - (j + 1) in
        let e : base + 64 - j ≡ suc (base + 64 - (j + 1)) = omega arith in
        record {
          low = omega (arith, w.low);
          high = omega arith;
          small = (div-lt_iff_lt-mul two).1 (subst (λ (k : ℕ). y < k) (ap (λ (m : ℕ). 2 ^ m) e ∙ pow-suc 2 (base + 64 - (j + 1))) w.small);
          same = rw q (step (eqb (y % 2) 1) ∙ ap (λ (l : List ℕ). g l cs) (sym (ones_step (base + 64 - (j + 1)) y j)) ∙ ap (λ (m : ℕ). g (ones m y j) cs) (sym e) ∙ w.same);
        }
      where
        two : 0 < 2
        two = omega arith

        step : (b : Bool) → g (ones (base + 64 - (j + 1)) (y / 2) (j + 1)) (cond b (st cs j) cs) ≡ g (cond b (j ∷ ones (base + 64 - (j + 1)) (y / 2) (j + 1)) (ones (base + 64 - (j + 1)) (y / 2) (j + 1))) cs
        step true = sym (cons j (ones (base + 64 - (j + 1)) (y / 2) (j + 1)) cs)
        step false = refl

    pub sweep_end : y ≡ 0 → cs ≡ g (ones 64 x base) cs₀
    sweep_end e = sym (nil cs) ∙ ap (λ (l : List ℕ). g l cs) (sym (ones_none (base + 64 - j) j)) ∙ ap (λ (z : ℕ). g (ones (base + 64 - j) z j) cs) (sym e) ∙ w.same

  -- bits that are all 0 change nothing
  pub sweep_skip : (n : ℕ) {x base : ℕ} {cs₀ : List ℕ} {y j : ℕ} {cs : List ℕ} → Sweep x base cs₀ y j cs → 0 < y → y % 2 ^ n ≡ 0 → Sweep x base cs₀ (y / 2 ^ n) (j + n) cs
  sweep_skip zero {y = y} {j = j} w h e = rw (div-one y, add-zero j) w
  sweep_skip (suc n) {x} {base} {cs₀} {y} {j} {cs} w h e =
      let q : ℕ = y / 2 ^ suc n in
      let d : y ≡ q * 2 ^ suc n + 0 = sym (div-add-mod' y (2 ^ suc n)) ∙ ap (λ (r : ℕ). q * 2 ^ suc n + r) e in
      let even : y % 2 ≡ 0 = ap (λ (r : ℕ). r % 2) d ∙ block_odd q n 0 in
      let half : y / 2 ≡ q * 2 ^ n + 0 = ap (λ (r : ℕ). r / 2) d ∙ block_half q n 0 in
      let rest : y / 2 % 2 ^ n ≡ 0 = ap (λ (r : ℕ). r % 2 ^ n) half ∙ digits_mod q (pow_pos n) in
      let one : Sweep x base cs₀ (y / 2) (j + 1) cs = sweep_go w h (rw even) in
      let all = sweep_skip n one (let a = div-add-mod' y 2 in omega arith) rest in
      let to : y / 2 / 2 ^ n ≡ y / 2 ^ suc n = div-div-eq-div-mul y 2 (2 ^ n) ∙ ap (λ (r : ℕ). y / r) (sym (pow-succ' 2 n)) in
      let on : j + 1 + n ≡ j + suc n = omega arith in
      rw (to, on) at all

  g_append : (a b cs : List ℕ) → g (a ++ b) cs ≡ g b (g a cs)
  g_append [] b cs = ap (g b) (sym (nil cs))
  g_append (k ∷ a) b cs = cons k (a ++ b) cs ∙ g_append a b (st cs k) ∙ ap (g b) (sym (cons k a cs))

  pub record Words (bits : List ℕ) (from w : ℕ) (cs₀ : List ℕ) (a j : ℕ) (cs : List ℕ) : Type 0 where
    pub upto : a ≤ w
    pub at : j ≡ 64 * a
    pub same : g (word_ones bits (w - a) (from + a) j) cs ≡ g (word_ones bits w from 0) cs₀

  pub words_start : (bits : List ℕ) (from w : ℕ) (cs : List ℕ) → Words bits from w cs 0 0 cs
  words_start bits from w cs = let e : w - 0 ≡ w = omega arith in let f : from + 0 ≡ from = omega arith in record { upto = omega arith; at = refl; same = rw (e, f) refl }

  module _ {bits : List ℕ} {from w : ℕ} {cs₀ : List ℕ} {a j : ℕ} {cs : List ℕ} (v : Words bits from w cs₀ a j cs) where
    pub words_go : {cs' : List ℕ} → a < w → cs' ≡ g (ones 64 (get_or bits (from + a) 0) j) cs → Words bits from w cs₀ (a + 1) (j + 64) cs'
    unfolding word_ones
    words_go {cs'} h q =
        let e : w - a ≡ suc (w - (a + 1)) = omega arith in
        let f : from + a + 1 ≡ from + (a + 1) = omega arith in
        let u : g (ones 64 (get_or bits (from + a) 0) j ++ word_ones bits (w - (a + 1)) (from + a + 1) (j + 64)) cs ≡ g (word_ones bits w from 0) cs₀ = rw e at v.same in
        record {
          upto = omega arith;
          at = omega (arith, v.at);
          same = rw (q, ← f) (sym (g_append (ones 64 (get_or bits (from + a) 0) j) (word_ones bits (w - (a + 1)) (from + a + 1) (j + 64)) cs) ∙ u);
        }

    pub words_end : w ≤ a → cs ≡ g (word_ones bits w from 0) cs₀
    unfolding word_ones
    words_end h = let e : w - a ≡ 0 = omega (arith, v.upto) in sym (nil cs) ∙ (rw e at v.same)

pub raise_nil : (cs : List ℕ) → raise [] cs ≡ cs
unfolding raise
raise_nil cs = refl

pub raise_cons : (k : ℕ) (ks cs : List ℕ) → raise (k ∷ ks) cs ≡ raise ks (set cs k (get_or cs k 0 + 1))
unfolding raise
raise_cons k ks cs = refl

pub lower_nil : (cs : List ℕ) → lower [] cs ≡ cs
unfolding lower
lower_nil cs = refl

pub lower_cons : (k : ℕ) (ks cs : List ℕ) → lower (k ∷ ks) cs ≡ lower ks (set cs k (get_or cs k 0 - 1))
unfolding lower
lower_cons k ks cs = refl

abbrev pub up : List ℕ → ℕ → List ℕ
up cs k = set cs k (get_or cs k 0 + 1)

abbrev pub down : List ℕ → ℕ → List ℕ
down cs k = set cs k (get_or cs k 0 - 1)

-- ---- all rows counted
pub square : (n w a b : ℕ) → n ≤ a → w ≤ b → n * w ≤ a * b
square n w a b h k = let x = mul-le-mul_right w h in let y = mul-le-mul_right a k in let p = mul_comm a w in let q = mul_comm b a in omega arith

pub record Counting (bits : List ℕ) (w : ℕ) (cs₀ : List ℕ) (i o top : ℕ) (cs : List ℕ) : Type 0 where
  pub upto : i ≤ length cs₀
  pub at : o ≡ i * w
  pub most : top ≡ 1 + 64 * o
  pub few : Few top cs
  pub size : length cs ≡ length cs₀
  pub same : counted (kids_of bits w) i (length cs₀ - i) cs ≡ counted (kids_of bits w) 0 (length cs₀) cs₀

pub counting : (bits : List ℕ) (w : ℕ) (cs : List ℕ) → Few 1 cs → Counting bits w cs 0 0 1 cs
counting bits w cs f = let e : length cs - 0 ≡ length cs = omega arith in record { upto = omega arith; at = sym (zero-mul w); most = refl; few = f; size = refl; same = rw e refl }

module _ {bits : List ℕ} {w : ℕ} {cs₀ : List ℕ} {i o top : ℕ} {cs : List ℕ} (v : Counting bits w cs₀ i o top cs) where
  pub counting_room : i < length cs₀ → length cs₀ * w ≤ length bits → o + w ≤ length bits
  counting_room h k = let z = line_in (length cs₀) w i h in let e = v.at in omega arith

  pub counting_top : i < length cs₀ → length cs₀ ≤ 2048 → w ≤ 32 → (top + 64 * w < 4294967296) × (o + w ≤ 65536)
  counting_top h n k =
      let z = line_in (length cs₀) w i h in
      let y = square (length cs₀) w 2048 32 n k in
      let e = v.at in
      let t = v.most in
      (omega arith, omega arith)

  pub counting_go : {cs' : List ℕ} → i < length cs₀ → cs' ≡ raise (word_ones bits w o 0) cs → Few (top + 64 * w) cs' → Counting bits w cs₀ (i + 1) (o + w) (top + 64 * w) cs'
  unfolding counted kids_of
  counting_go {cs'} h q f =
      let e : length cs₀ - i ≡ suc (length cs₀ - suc i) = omega arith in
      let s = suc-mul i w in
      let u : counted (kids_of bits w) (suc i) (length cs₀ - suc i) (raise (word_ones bits w (i * w) 0) cs) ≡ counted (kids_of bits w) 0 (length cs₀) cs₀ = rw e at v.same in
      record {
        upto = omega arith;
        at = rw add-one (let z = v.at in omega arith);
        most = let z = v.most in omega arith;
        few = f;
        size = ap length q ∙ raise_length (word_ones bits w o 0) cs ∙ v.size;
        same = rw (q, v.at, add-one) u;
      }

  pub counting_end : length cs₀ ≤ i → cs ≡ counted (kids_of bits w) 0 (length cs₀) cs₀
  unfolding counted
  counting_end h = let e : length cs₀ - i ≡ 0 = omega (arith, v.upto) in rw e at v.same

-- ---- the first that holds 1
first_is : (cs : List ℕ) (i : ℕ) → ((j : ℕ) → j < i → get_or cs j 0 ≡ 1 → ⊥) → i < length cs → get_or cs i 0 ≡ 1 → first_one cs ≡ i
unfolding first_one
first_is [] i f h e = absurd (let z : ⊥ = omega arith in z)
first_is (c ∷ cs) zero f h e = rw (eq-eqb c 1 e)
first_is (c ∷ cs) (suc i) f h e = rw (ne_eqb c 1 (λ q. f 0 (omega arith) q)) (ap suc (first_is cs i (λ j k q. f (suc j) (omega arith) q) (le_of_suc-le-suc h) e))

first_none : (cs : List ℕ) → ((j : ℕ) → j < length cs → get_or cs j 0 ≡ 1 → ⊥) → first_one cs ≡ length cs
unfolding first_one
first_none [] f = refl
first_none (c ∷ cs) f = rw (ne_eqb c 1 (λ q. f 0 (omega arith) q)) (ap suc (first_none cs (λ j k q. f (suc j) (omega arith) q)))

first_clear : (cs : List ℕ) (j : ℕ) → j < first_one cs → get_or cs j 0 ≡ 1 → ⊥
unfolding first_one
first_clear [] j h e = let z : ⊥ = omega arith in z
first_clear (c ∷ cs) zero h e = let k : 0 < 0 = rw (eq-eqb c 1 e) at h in let z : ⊥ = omega arith in z
first_clear (c ∷ cs) (suc j) h e = cases (eqb c 1)
    (λ t. let k : suc j < 0 = rw t at h in absurd (let z : ⊥ = omega arith in z))
    (λ t. first_clear cs j (le_of_suc-le-suc (rw t at h)) e)

pub first_here : {cs : List ℕ} {i : ℕ} → Clear i cs → i < length cs → get_or cs i 0 ≡ 1 → i ≡ first_one cs
first_here {cs} {i} c h e = sym (first_is cs i c.all h e)

pub first_on : {cs : List ℕ} (i : ℕ) → Clear i cs → (get_or cs i 0 ≡ 1 → ⊥) → Clear (i + 1) cs
first_on {cs} i c n = record {
  all = λ j h e. cases (eqb j i) (λ t. n (rw (eqb-true j i t) at e)) (λ t. let q = eqb-false j i t in c.all j (cases (ltb j i) (λ u. ltb-true j i u) (λ u. let o = ltb-false j i u in absurd (q (let z : j ≡ i = omega arith in z)))) e);
}

pub first_end : {cs : List ℕ} {i : ℕ} → Clear i cs → length cs ≤ i → length cs ≡ first_one cs
first_end {cs} {i} c h = sym (first_none cs (λ j k e. c.all j (omega arith) e))

-- ---- the rows listed so far
abbrev pub place_at : List ℕ → ℕ → ℕ
place_at at i = get_or at i 0

pub record Listing (at bits : List ℕ) (w : ℕ) (cs₀ : List ℕ) (len : ℕ) (cs picked : List ℕ) (m from : ℕ) : Type 0 where
  pub upto : m ≤ length cs₀
  pub size : length cs ≡ length cs₀
  pub room : length picked ≡ len
  pub clear : Clear from cs
  pub same : take m picked ++ map (place_at at) (picks (kids_of bits w) (length cs₀ - m) cs) ≡ map (place_at at) (picks (kids_of bits w) (length cs₀) cs₀)

pub listing : (at bits : List ℕ) (w : ℕ) (cs picked : List ℕ) → Listing at bits w cs (length picked) cs picked 0 0
listing at bits w cs picked = let e : length cs - 0 ≡ length cs = omega arith in record {
  upto = omega arith;
  size = refl;
  room = refl;
  clear = record { all = λ j h _. let z : ⊥ = omega arith in z };
  same = rw e refl;
}

module _ {at bits : List ℕ} {w : ℕ} {cs₀ : List ℕ} {len : ℕ} {cs picked : List ℕ} {m from : ℕ} (v : Listing at bits w cs₀ len cs picked m from) (fit : length cs₀ ≤ len) where
  pub listing_end : length cs₀ ≤ m → take m picked ≡ map (place_at at) (picks (kids_of bits w) (length cs₀) cs₀)
  unfolding picks
  listing_end h = let z : length cs₀ - m ≡ 0 = omega arith in sym (append-nil (take m picked)) ∙ (rw z at v.same)

  module _ (h : m < length cs₀) {i : ℕ} (e : i ≡ first_one cs) where
    pub listing_stop : length cs₀ ≤ i → take m picked ≡ map (place_at at) (picks (kids_of bits w) (length cs₀) cs₀)
    unfolding picks
    listing_stop k =
        let z = le-ltb (first_one cs) (length cs) (omega (arith, v.size)) in
        let l : length cs₀ - m ≡ suc (length cs₀ - (m + 1)) = omega arith in
        sym (append-nil (take m picked)) ∙ (rw (l, z) at v.same)

    cut_clear : i < length cs → Clear (i + 1) (set cs i 0)
    cut_clear k = record {
      all = λ j q f. cases (eqb j i)
          (λ t. let y : get_or (set cs i 0) i 0 ≡ 1 = rw (eqb-true j i t) at f in let x = get_or-set_same cs i 0 0 k in let o : ⊥ = omega arith in o)
          (λ t. let n = eqb-false j i t in
          let y : get_or cs j 0 ≡ 1 = sym (get_or-set_other cs i j 0 0 n) ∙ f in
          first_clear cs j (rw e at (let z : j < i = cases (ltb j i) (λ u. ltb-true j i u) (λ u. let o = ltb-false j i u in absurd (n (let x : j ≡ i = omega arith in x))) in z)) y);
    }

    pub listing_go : i < length cs₀ → {r : ℕ} {cs' picked' : List ℕ} → Lowered (set cs i 0) (i + 1) (lower (word_ones bits w (i * w) 0) (set cs i 0)) r cs' → picked' ≡ set picked m (get_or at i 0)
        → Listing at bits w cs₀ len cs' picked' (m + 1) r
    unfolding picks kids_of
    listing_go k {r} {cs'} {picked'} d p =
        let z = lt-ltb (first_one cs) (length cs) (omega (arith, v.size)) in
        let l : length cs₀ - m ≡ suc (length cs₀ - (m + 1)) = omega arith in
        let y : take m picked ++ (get_or at i 0 ∷ map (place_at at) (picks (kids_of bits w) (length cs₀ - (m + 1)) (lower (word_ones bits w (i * w) 0) (set cs i 0)))) ≡ map (place_at at) (picks (kids_of bits w) (length cs₀) cs₀) = rw (l, z, ← e) at v.same in
        record {
          upto = omega arith;
          size = ap length d.is ∙ lower_length (word_ones bits w (i * w) 0) (set cs i 0) ∙ length-set cs i 0 ∙ v.size;
          room = ap length p ∙ length-set picked m (get_or at i 0) ∙ v.room;
          clear = d.clear (cut_clear (omega (arith, v.size)));
          same = rw (p, d.is, add-one m, take-suc-set picked m (get_or at i 0) (omega (arith, v.room)), append_assoc, ← (add-one m)) y;
        }

-- ---- the answer's bytes
module _ (s out : Bytes) (picked : List ℕ) (all : All (λ p. p + 33 ≤ length s) picked) where
  ids_many : length (map (id_at s) picked) ≡ length picked
  ids_many = laws.length_map (id_at s) picked

  answer_size : length (ids_bytes (map (id_at s) picked)) ≡ 4 + 32 * length picked
  unfolding ids_bytes
  answer_size = omega (arith, ids_size s picked all)

  pub listed_4 : length out < 4 + 32 * length picked → written (Refused 4) out ≡ told_out (ids_bytes (map (id_at s) picked)) out
  listed_4 h = sym (told_4 (ids_bytes (map (id_at s) picked)) out (omega (arith, answer_size)))

  pub listed_100 : {o₁ o₂ : Bytes} {r₁ r₂ : ℕ} → length picked < 256 ^ 4 → 4 + 32 * length picked ≤ length out → Put out 0 (be_last 4 (length picked)) 4 r₁ o₁ → Put o₁ r₁ (concat (map (id_at s) picked)) (32 * length picked) r₂ o₂
      → written (Done Nothing) o₂ ≡ told_out (ids_bytes (map (id_at s) picked)) out
  unfolding ids_bytes
  listed_100 k h p q =
      let y : be_last 4 (length picked) ≡ codec.be 4 (length (map (id_at s) picked)) = be_same 4 (length picked) k ∙ ap (codec.be 4) (sym ids_many) in
      sym (told_100 (recast (then p q) (join y) refl refl) (omega arith))
    where
      join : {a a' : Bytes} → a ≡ a' → a ++ concat (map (id_at s) picked) ≡ a' ++ concat (map (id_at s) picked)
      join p = cc

-- ---- the bits are a right table
zero_bit : (k : ℕ) → bit_l 0 k ≡ false
unfolding bit_l
zero_bit zero = refl
zero_bit (suc k) = zero_bit k

-- two lists have an id in common, whichever is asked
meet_to : (a b : List Id) → any? (λ z. among? z a) b ≡ true → any? (λ z. among? z b) a ≡ true
meet_to a [] e = false_true e
meet_to a (y ∷ b) e = or_true (among? y a) (any? (λ z. among? z a) b) e
    (λ t. first a t)
    (λ _ t. more a (meet_to a b t))
  where
    more_or : (p q : Bool) → q ≡ true → (p || q) ≡ true
    more_or true q e = refl
    more_or false q e = e

    first : (a : List Id) → among? y a ≡ true → any? (λ z. among? z (y ∷ b)) a ≡ true
    first [] t = false_true t
    first (x ∷ a) t = or_true (same? y x) (among? y a) t
        (λ u. rw (same_sym x y, u))
        (λ _ u. more_or (among? x (y ∷ b)) (any? (λ z. among? z (y ∷ b)) a) (first a u))

    more : (a : List Id) → any? (λ z. among? z b) a ≡ true → any? (λ z. among? z (y ∷ b)) a ≡ true
    more [] t = false_true t
    more (x ∷ a) t = or_true (among? x b) (any? (λ z. among? z b) a) t
        (λ u. rw (more_or (same? x y) (among? x b) u))
        (λ _ u. more_or (among? x (y ∷ b)) (any? (λ z. among? z (y ∷ b)) a) (more a u))

meet : (a b : List Id) → any? (λ z. among? z a) b ≡ any? (λ z. among? z b) a
meet a b = cases (any? (λ z. among? z a) b)
    (λ t. t ∙ sym (meet_to a b t))
    (λ t. cases (any? (λ z. among? z b) a) (λ u. false_true (sym t ∙ meet_to b a u)) (λ u. t ∙ sym u))

module _ (s : Bytes) (at : List ℕ) (named : Named s at) where
  apart_at : (l : List ℕ) (i j : ℕ) → Pairwise (λ p q. same? (rec_at_value s p).id (rec_at_value s q).id ≡ false) l → i < j → j < length l → same? (rec_at_value s (get_or l i 0)).id (rec_at_value s (get_or l j 0)).id ≡ false
  apart_at [] i j h a b = absurd (let z : ⊥ = omega arith in z)
  apart_at (p ∷ l) i zero h a b = absurd (let z : ⊥ = omega arith in z)
  apart_at (p ∷ l) zero (suc j) h a b = all_get l j h.0 (le_of_suc-le-suc b)
    where
      all_get : (l : List ℕ) (j : ℕ) → All (λ q. same? (rec_at_value s p).id (rec_at_value s q).id ≡ false) l → j < length l → same? (rec_at_value s p).id (rec_at_value s (get_or l j 0)).id ≡ false
      all_get [] j h b = absurd (let z : ⊥ = omega arith in z)
      all_get (q ∷ l) zero h b = h.0
      all_get (q ∷ l) (suc j) h b = all_get l j h.1 (le_of_suc-le-suc b)
  apart_at (p ∷ l) (suc i) (suc j) h a b = apart_at l i j h.1 (le_of_suc-le-suc a) (le_of_suc-le-suc b)

  ids_apart : (i j : ℕ) → i < length at → j < length at → same? (rec_at_value s (get_or at j 0)).id (rec_at_value s (get_or at i 0)).id ≡ eqb j i
  ids_apart i j a b = cases (eqb j i)
      (λ t. rw (eqb-true j i t, same_self (rec_at_value s (get_or at i 0)).id) (sym (eq-eqb i i refl)))
      (λ t. let n = eqb-false j i t in cases (ltb j i)
      (λ u. apart_at at j i named.apart (ltb-true j i u) a ∙ sym t)
      (λ u. let o = ltb-false j i u in same_sym (rec_at_value s (get_or at j 0)).id (rec_at_value s (get_or at i 0)).id ∙ apart_at at i j named.apart (cases (ltb i j) (λ w. ltb-true i j w) (λ w. let m = ltb-false i j w in absurd (n (let z : j ≡ i = omega arith in z)))) b ∙ sym t))

  module _ (w : ℕ) (bits bits' : List ℕ) (wide : length at ≤ 64 * w) (fits : length at * w ≤ length bits) (blank : Zero bits)
      (x : Joined w bits bits' (outputs_linked s at (λ j z. ltb j (length at) && among? z (wants_at s at j)))) where
    abbrev recs : List Rec
    recs = map (rec_at_value s) at

    recs_many : length recs ≡ length at
    recs_many = laws.length_map (rec_at_value s) at

    rec_get : (i : ℕ) → i < length at → get_or recs i no_rec ≡ rec_at_value s (get_or at i 0)
    rec_get i h = get_d_map (rec_at_value s) at i no_rec h

    bit_is : (i j : ℕ) → i < length at → j < length at → bit_at bits' w i j ≡ waits_for? (rec_at_value s (get_or at j 0)) (rec_at_value s (get_or at i 0))
    unfolding bit_at outputs_linked waits_for?
    bit_is i j a b =
        let l = line_in (length at) w i a in
        x.is i j (omega arith) (omega arith)
        ∙ rw (blank.all (i * w + j / 64), zero_bit (j % 64), lt-ltb i (length at) a, ids_apart i j a b)
        (swap (any? (λ z. ltb j (length at) && among? z (wants_at s at j)) (outs_at s at i)) (eqb j i)
        ∙ ap (λ (q : Bool). not (eqb j i) && q) (any_same (λ z. ltb j (length at) && among? z (wants_at s at j)) (λ z. among? z (wants_at s at j)) (λ z. rw (lt-ltb j (length at) b)) (outs_at s at i) ∙ meet (wants_at s at j) (outs_at s at i)))
      where
        swap : (p q : Bool) → (p && not q) ≡ (not q && p)
        swap true true = refl
        swap true false = refl
        swap false true = refl
        swap false false = refl

    right : Kids waits_for? recs no_rec (kids_of bits' w)
    right i j a b =
        let h : i < length at = omega (arith, recs_many) in
        let k : j < length at = omega (arith, recs_many) in
        kids_any bits' w i j (omega arith) ∙ bit_is i j h k ∙ rw (← (rec_get i h), ← (rec_get j k)) refl

    order_is : rows_at waits_for? recs no_rec (by_counters (kids_of bits' w) (length at)) ≡ parents_first_value waits_for? recs
    order_is = ap (λ (n : ℕ). rows_at waits_for? recs no_rec (by_counters (kids_of bits' w) n)) (sym recs_many) ∙ by_counters_law waits_for? recs no_rec (kids_of bits' w) right

    picks_below : (n : ℕ) (cs : List ℕ) → length cs ≡ length at → All (λ i. i < length at) (picks (kids_of bits' w) n cs)
    unfolding picks
    picks_below zero cs e = tt
    picks_below (suc n) cs e = cases (ltb (first_one cs) (length cs))
        (λ t. let h = ltb-true (first_one cs) (length cs) t in
        rw t (omega arith, picks_below n (lower (kids_of bits' w (first_one cs)) (set cs (first_one cs) 0)) (lower_length (kids_of bits' w (first_one cs)) (set cs (first_one cs) 0) ∙ length-set cs (first_one cs) 0 ∙ e)))
        (λ t. rw t tt)

    below : All (λ i. i < length at) (by_counters (kids_of bits' w) (length at))
    below = picks_below (length at) (start (kids_of bits' w) (length at)) (counted_length (kids_of bits' w) 0 (length at) (replicate (length at) 1) ∙ length-replicate (length at) 1)

    ids_of : (l : List ℕ) → All (λ i. i < length at) l → map (id_at s) (map (place_at at) l) ≡ map (λ (r : Rec). r.id) (rows_at waits_for? recs no_rec l)
    ids_of [] h = refl
    ids_of (i ∷ l) h =
        let e : id_at s (get_or at i 0) ≡ (get_or recs i no_rec).id = (known_at s at i named.known h.0).id ∙ ap (λ (r : Rec). r.id) (sym (rec_get i h.0)) in
        cons_same e (ids_of l h.1)

    within_of : (l : List ℕ) → All (λ i. i < length at) l → All (λ p. p + 33 ≤ length s) (map (place_at at) l)
    within_of [] h = tt
    within_of (i ∷ l) h = ((known_at s at i named.known h.0).within, within_of l h.1)

    -- the counters after the rows were set to 1, and after they were counted
    module _ {n : ℕ} {cs₁ : List ℕ} (all_ones : Ones n cs₁) (even : length at ≡ n) (few : length at ≤ 2048) (narrow : w ≤ 32) where
      many_1 : length cs₁ ≡ length at
      many_1 = ap length all_ones.is ∙ length-replicate n 1 ∙ sym even

      pub with_count : (length cs₁ * w ≤ length bits') × (w ≤ 32) × (length cs₁ ≤ 2048) × Few 1 cs₁
      with_count = (lines_room (length cs₁) (length at) w many_1 fits x.size, narrow, omega (arith, many_1), few_ones n all_ones.is)

      module _ {cs₂ : List ℕ} (sums : cs₂ ≡ counted (kids_of bits' w) 0 (length cs₁) cs₁) where
        many_2 : length cs₂ ≡ length at
        many_2 = ap length sums ∙ counted_length (kids_of bits' w) 0 (length cs₁) cs₁ ∙ many_1

        pub with_list : (room : ℕ) → length at ≤ room → (length at ≡ length cs₂) × (length cs₂ * w ≤ length bits') × (w ≤ 32) × (length cs₂ ≤ 2048) × (length cs₂ ≤ room)
        with_list room h = (sym many_2, lines_room (length cs₂) (length at) w many_2 fits x.size, narrow, omega (arith, many_2), omega (arith, many_2))

        pub with_room : {r : ℕ} (room : ℕ) → r ≤ length cs₂ → length at ≤ room → r ≤ room
        with_room room h k = omega (arith, many_2)

        pub with_picked : {l : List ℕ} → l ≡ map (place_at at) (picks (kids_of bits' w) (length cs₂) cs₂) → l ≡ map (place_at at) (by_counters (kids_of bits' w) (length at))
        with_picked e =
            let a : cs₁ ≡ replicate (length at) 1 = all_ones.is ∙ ap (λ (n : ℕ). replicate n 1) (sym even) in
            let b : cs₂ ≡ counted (kids_of bits' w) 0 (length at) (replicate (length at) 1) = sums ∙ rw (many_1, a) in
            e ∙ rw (many_2, b)

    pub with_within : {l : List ℕ} → l ≡ map (place_at at) (by_counters (kids_of bits' w) (length at)) → All (λ p. p + 33 ≤ length s) l
    with_within e = rw e (within_of (by_counters (kids_of bits' w) (length at)) below)

    picks_few : (n : ℕ) (cs : List ℕ) → length (picks (kids_of bits' w) n cs) ≤ n
    unfolding picks
    picks_few zero cs = omega arith
    picks_few (suc n) cs = cases (ltb (first_one cs) (length cs))
        (λ t. let i = picks_few n (lower (kids_of bits' w (first_one cs)) (set cs (first_one cs) 0)) in rw t (omega arith))
        (λ t. rw t (omega arith))

    pub with_few : {l : List ℕ} → l ≡ map (place_at at) (by_counters (kids_of bits' w) (length at)) → length at ≤ 2048 → length l ≤ 2048
    with_few e h = rw (e, laws.length_map (place_at at) (by_counters (kids_of bits' w) (length at))) (let z = picks_few (length at) (start (kids_of bits' w) (length at)) in omega arith)

    pub with_told : {l : List ℕ} (out : Bytes) {r : Written} → l ≡ map (place_at at) (by_counters (kids_of bits' w) (length at)) → r ≡ told_out (ids_bytes (map (id_at s) l)) out
        → r ≡ told_out (ids_bytes (map (λ (r : Rec). r.id) (parents_first_value waits_for? recs))) out
    with_told {l} out e f =
        f ∙ ap (λ (k : List Id). told_out (ids_bytes k) out) (ap (map (id_at s)) e ∙ ids_of (by_counters (kids_of bits' w) (length at)) below ∙ ap (map (λ (r : Rec). r.id)) order_is)

pub zero_array : (n : ℕ) → Zero (replicate n 0)
zero_array n = record { all = go n }
  where
    go : (n i : ℕ) → ◌≡◌ {A = ℕ} (get_or (replicate n 0) i 0) 0
    go zero i = refl
    go (suc n) zero = refl
    go (suc n) (suc i) = go n i

-- ---- the rows in order
module _ (s : Bytes) where
  abbrev place_of : Row → ℕ
  place_of w = w.1.1

  abbrev Differ : ℕ → ℕ → Type 0
  Differ p q = same? (rec_at_value s p).id (rec_at_value s q).id ≡ false

  all_to : (P : ℕ → Type 0) (z : List Row) → All P (map place_of z) → All (λ w. P (place_of w)) z
  all_to P [] h = tt
  all_to P (w ∷ z) h = (h.0, all_to P z h.1)

  all_from : (P : ℕ → Type 0) (z : List Row) → All (λ w. P (place_of w)) z → All P (map place_of z)
  all_from P [] h = tt
  all_from P (w ∷ z) h = (h.0, all_from P z h.1)

  pair_to : (z : List Row) → Pairwise Differ (map place_of z) → Pairwise (λ v w. Differ (place_of v) (place_of w)) z
  pair_to [] h = tt
  pair_to (w ∷ z) h = (all_to (Differ (place_of w)) z h.0, pair_to z h.1)

  pair_from : (z : List Row) → Pairwise (λ v w. Differ (place_of v) (place_of w)) z → Pairwise Differ (map place_of z)
  pair_from [] h = tt
  pair_from (w ∷ z) h = (all_from (Differ (place_of w)) z h.0, pair_from z h.1)

  named_sort : (z : List Row) → Named s (map place_of z) → Named s (map place_of (sort ahead? z))
  named_sort z n = record {
    known = all_from (Known s) (sort ahead? z) (sort_all ahead? (λ w. Known s (place_of w)) z (all_to (Known s) z n.known));
    short = all_from (Short s) (sort ahead? z) (sort_all ahead? (λ w. Short s (place_of w)) z (all_to (Short s) z n.short));
    apart = pair_from (sort ahead? z) (sort_apart ahead? (λ v w. Differ (place_of v) (place_of w)) (λ v w d. same_sym (rec_at_value s (place_of w)).id (rec_at_value s (place_of v)).id ∙ d) z (pair_to z n.apart));
  }

-- ---- the rows that were gathered
modest_rows : (s : Bytes) (z : List Row) (l : List Rec) → RowsAs s z l → All Modest l → All (λ w. Modest (rec_of_row s w)) z
modest_rows s z l h m = go z (rw (rows_recs s z l h) m)
  where
    go : (z : List Row) → All Modest (map (rec_of_row s) z) → All (λ w. Modest (rec_of_row s w)) z
    go [] h = tt
    go (w ∷ z) h = (h.0, go z h.1)

apart_rows : (s : Bytes) (z : List Row) → Pairwise Before (map (rec_of_row s) z) → Pairwise (λ v w. same? (rec_of_row s v).id (rec_of_row s w).id ≡ false) z
apart_rows s [] h = tt
apart_rows s (w ∷ z) h = (go z h.0, apart_rows s z h.1)
  where
    go : (z : List Row) → All (Before (rec_of_row s w)) (map (rec_of_row s) z) → All (λ v. same? (rec_of_row s w).id (rec_of_row s v).id ≡ false) z
    go [] h = tt
    go (v ∷ z) h = (below_not_same (rec_of_row s w).id (rec_of_row s v).id h.0, go z h.1)

-- the places that were selected
module _ {s : Bytes} {l : List Rec} {n : ℕ} {c : List ℕ} (x : Selected s l n c) (p : Pairwise Before l) where
  pub selected_named : All Modest l → Named s (take n c)
  selected_named q = rw x.places (named_sort s x.table (record {
    known = places_known s x.table (rows_known s x.table l x.listed);
    short = all_from s (Short s) x.table (modest_rows s x.table l x.listed q);
    apart = pair_from s x.table (apart_rows s x.table (rw (rows_recs s x.table l x.listed) p));
  }))

  pub selected_listed : (out : Bytes) {w : Written} → w ≡ told_out (ids_bytes (map (λ (r : Rec). r.id) (parents_first_value waits_for? (map (rec_at_value s) (take n c))))) out
      → w ≡ told_out (ids_bytes (map (λ (r : Rec). r.id) (parents_first_value waits_for? (sort first? l)))) out
  selected_listed out e = e ∙ ap (λ (k : List Rec). told_out (ids_bytes (map (λ (r : Rec). r.id) (parents_first_value waits_for? k))) out) (selected_recs x p)

-- ---- the call
module _ {s : Bytes} {x : Area} (now height : ℕ) {q : Queue} (a : AreaAs s x q) where
  pub chosen_modest : All Modest (chosen now height s (records_of x.open))
  chosen_modest =
      let u = sound_of_law q a.sound in
      rw (chosen_is now height a) (sub_all Modest (filter_sub (selected? now height) q.recs) (all_map q.recs (λ r h. let k = h.ins in let l = h.reads in let m = u.range.K-high in (omega arith, omega arith)) u.right))

  pub parents_100 : (out : Bytes) {w : Written} → read_area s ≡ some q → w ≡ told_out (ids_bytes (map (λ (r : Rec). r.id) (parents_first_value waits_for? (sort first? (chosen now height s (records_of x.open)))))) out
      → w ≡ parents_first_of s now height out
  unfolding parents_first_of read_of
  parents_100 out r e = e ∙ ap (λ (l : List Rec). told_out (ids_bytes (map (λ (r : Rec). r.id) (parents_first_value waits_for? (sort first? l)))) out) (chosen_is now height a) ∙ rw r

pub parents_3 : (s : Bytes) (now height : ℕ) (out : Bytes) → read_area s ≡ none → written (Refused 3) out ≡ parents_first_of s now height out
unfolding parents_first_of read_of
parents_3 s now height out e = rw e

-- ---- a long area holds what its first part holds
need_most_law : (q : Queue) → InRange q.limits → need q.limits ≤ need_most
unfolding need
need_most_law q g = let h = product q.limits.P q.limits.K g.P-high g.K-high in omega (arith, g.B-high, g.T-high, g.K-high, g.P-high)

layout_most : (q : Queue) → length (queue_c.enc q) ≤ need q.limits → InRange q.limits → length (layout q) ≤ need_most
unfolding layout
layout_most q h g =
    let n = need_most_law q g in
    let a = length-append (queue_c.enc q) (replicate (need q.limits - length (queue_c.enc q)) 0) in
    let b = length-replicate {A = ℕ} (need q.limits - length (queue_c.enc q)) 0 in
    omega arith

take_over : (n : ℕ) (a b : Bytes) → length a ≤ n → take n (a ++ b) ≡ a ++ take (n - length a) b
take_over n [] b h = rw (let z : n - 0 ≡ n = omega arith in z)
take_over zero (x ∷ a) b h = absurd (let z : ⊥ = omega arith in z)
take_over (suc n) (x ∷ a) b h =
    let e : suc n - suc (length a) ≡ n - length a = omega arith in
    rw e (ap (λ (l : Bytes). x ∷ l) (take_over n a b (le_of_suc-le-suc h)))

pub long_reads : (s : Bytes) (n : ℕ) → need_most ≤ n → read_area (take n s) ≡ read_area s
long_reads s n h = option_cases (read_area s)
    (λ e. option_cases (read_area (take n s)) (λ f. f ∙ sym e) (λ q f.
    let st = reads_stands (take n s) q f in
    let w : s ≡ layout q ++ (st.later ++ drop n s) = sym (take-append-drop n s) ∙ ap (λ (l : Bytes). l ++ drop n s) st.is ∙ append_assoc (layout q) st.later (drop n s) in
    f ∙ sym (stands_reads s q (record { sound = st.sound; range = st.range; fits = st.fits; later = st.later ++ drop n s; is = w }))))
    (λ q e.
    let st = reads_stands s q e in
    let m = layout_most q st.fits (sound_of_law q st.sound).range in
    let w : take n s ≡ layout q ++ take (n - length (layout q)) st.later = ap (take n) st.is ∙ take_over n (layout q) st.later (omega arith) in
    stands_reads (take n s) q (record { sound = st.sound; range = st.range; fits = st.fits; later = take (n - length (layout q)) st.later; is = w }) ∙ sym e)

pub long_told : (s : Bytes) (n now height : ℕ) (out : Bytes) {w : Written} → need_most ≤ n → w ≡ parents_first_of (take n s) now height out → w ≡ parents_first_of s now height out
unfolding parents_first_of read_of
long_told s n now height out h e = e ∙ rw (long_reads s n h)

pub short_part : (n m : ℕ) (s : Bytes) → n < m → n ≤ length s → length (take n s) < m
short_part n m s h k = let e = length-take-le n s k in omega arith

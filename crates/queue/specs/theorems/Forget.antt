-- Soundness without the bound on tombstones, and forgetting down to it.
use Rattle.std.specs.Prelude.{◌≡◌, refl, Bool, true, false, cond, not, ◌&&◌, ◌||◌, List, [], ◌∷◌, ℕ, zero, suc, ◌+◌, ◌*◌, ◌-◌, ◌≤◌, ◌<◌, min, ltb, leb, eqb, length, ◌≢◌}
use Rattle.std.proofs.Common.{◌∙◌, arith, ltb-true, ltb-false, leb-true, leb-false, lt-ltb, le-ltb, eqb-true, eq-eqb, ne_eqb}
use Rattle.std.proofs.lemmas.Bool.{eqb-false}
use Rattle.queue.specs.Codec.{cases, All}
use Rattle.queue.specs.Lists.{Pairwise, all_map, total_same, Sub, sub_all, sub_pairwise, sub_total}
use Rattle.queue.specs.bytes.ReaderLaws.{false_true}
use Rattle.queue.specs.bytes.OrderLaws.{or_false}
use Rattle.queue.specs.bytes.ListLaws.{one_le, pairwise_with, filter_sub, filter_total, total_le, total_eq, total_plus, total_zero, count_one, count_length}
use Rattle.queue.specs.theorems.SoundParts.{InRange, Right, Before, Distinct, Apart, Sound}
use Rattle.queue.specs.paper.Records.{Limits, Rec}
use Rattle.queue.specs.paper.Lists.{one, count}
use Rattle.queue.specs.paper.Sound.{holder?, mined?, content, holders, holder_bytes, mined_holders, mined_bytes, tombstones, stamped?}
use Rattle.queue.specs.paper.Changing.{higher, forget}

-- all rules but those on the number of tombstones
pub record Core (m : Limits) (counter : ℕ) (l : List Rec) : Type 0 where
  pub range : InRange m
  pub few_holders : holders l ≤ 2 * m.P
  pub few_bytes : holder_bytes l ≤ 2 * m.B
  pub few_mined : mined_holders l ≤ m.P
  pub few_mined_bytes : mined_bytes l ≤ m.B
  pub right : All (Right m.K counter) l
  pub rising : Pairwise Before l
  pub distinct : Pairwise Distinct l
  pub apart : Pairwise Apart l

pub core_sound : (m : Limits) (c : ℕ) (l : List Rec) → Core m c l → tombstones l ≤ m.T → Sound m c l
core_sound m c l s t = record {
  range = s.range;
  few = let a = s.few_holders in let e = count_length holder? l in omega arith;
  few_holders = s.few_holders;
  few_bytes = s.few_bytes;
  few_mined = s.few_mined;
  few_mined_bytes = s.few_mined_bytes;
  few_tombs = t;
  right = s.right;
  rising = s.rising;
  distinct = s.distinct;
  apart = s.apart;
}

pub sub_core : (m : Limits) (c : ℕ) {s l : List Rec} → Sub s l → Core m c l → Core m c s
sub_core m c u h =
    record {
      range = h.range;
      few_holders = let a = sub_total (λ r. one (holder? r)) u in let b = h.few_holders in omega arith;
      few_bytes = let a = sub_total (λ r. length (content r.body)) u in let b = h.few_bytes in omega arith;
      few_mined = let a = sub_total (λ r. one (mined? r && holder? r)) u in let b = h.few_mined in omega arith;
      few_mined_bytes = let a = sub_total (λ r. cond (mined? r) (length (content r.body)) 0) u in let b = h.few_mined_bytes in omega arith;
      right = sub_all _ u h.right;
      rising = sub_pairwise Before u h.rising;
      distinct = sub_pairwise Distinct u h.distinct;
      apart = sub_pairwise Apart u h.apart;
    }

-- ---- forgetting leaves at most t tombstones

-- the tombstones with exactly n, or fewer than n, higher numbers in L
abbrev at? : List Rec → ℕ → Rec → Bool
at? L n r = not (holder? r) && eqb (higher r.finish L) n

abbrev under? : List Rec → ℕ → Rec → Bool
under? L n r = not (holder? r) && ltb (higher r.finish L) n

abbrev Counted : List Rec → Rec → Type 0
Counted L s = holder? s ≡ false → 1 ≤ count (stamped? s.finish) L

counted : (l : List Rec) → All (Counted l) l
counted [] = tt
counted (r ∷ l) = (
  λ h. let e = eq-eqb r.finish r.finish refl in rw (h, e) (omega arith),
  all_map l (λ s k h. let i = k h in omega arith) (counted l),
)

-- a lower number has more above it
higher_less : (L : List Rec) (a b : Rec) → holder? b ≡ false → Counted L b → a.finish < b.finish → higher b.finish L < higher a.finish L
higher_less L a b hb k lt =
    let f : Rec → ℕ = λ r. one (not (holder? r) && ltb b.finish r.finish) + one (stamped? b.finish r) in
    let e = total_plus f (λ r. one (not (holder? r) && ltb b.finish r.finish)) (λ r. one (stamped? b.finish r)) (λ r. refl) L in
    let i = total_le f (λ r. one (not (holder? r) && ltb a.finish r.finish)) (λ r. step (holder? r) r.finish) L in
    let j = k hb in
    omega arith
  where
    step : (h : Bool) (n : ℕ) → one (not h && ltb b.finish n) + one (not h && eqb n b.finish) ≤ one (not h && ltb a.finish n)
    step true n = omega arith
    step false n = cases (ltb b.finish n)
        (λ t. let p = ltb-true b.finish n t in rw (t, ne_eqb n b.finish (λ e. omega arith), lt-ltb a.finish n (omega arith)) (omega arith))
        (λ t. cases (eqb n b.finish)
        (λ u. let p = eqb-true n b.finish u in rw (t, u, lt-ltb a.finish n (omega arith)) (omega arith))
        (λ u. rw (t, u) (omega arith)))

not_holder : (a b : Bool) → (not a && b) ≡ true → (a ≡ false) × (b ≡ true)
not_holder true b e = false_true e
not_holder false b e = (refl, e)

one_at : (L l : List Rec) (n : ℕ) → All (Counted L) l → Pairwise Distinct l → count (at? L n) l ≤ 1
one_at L l n k d = count_one (at? L n) l (pairwise_with (Counted L) Distinct (λ a b. at? L n a ≡ true → at? L n b ≢ true) (λ a b ka kb dab ta tb.
    let x = not_holder (holder? a) _ ta in
    let y = not_holder (holder? b) _ tb in
    let ea = eqb-true (higher a.finish L) n x.1 in
    let eb = eqb-true (higher b.finish L) n y.1 in
    cases (ltb a.finish b.finish)
    (λ t. let z = higher_less L a b y.0 kb (ltb-true _ _ t) in omega arith)
    (λ t. cases (ltb b.finish a.finish)
    (λ u. let z = higher_less L b a x.0 ka (ltb-true _ _ u) in omega arith)
    (λ u. let p = ltb-false a.finish b.finish t in let q = ltb-false b.finish a.finish u in dab x.0 y.0 (omega arith)))) l k d)

under_suc : (L l : List Rec) (n : ℕ) → count (under? L (suc n)) l ≡ count (under? L n) l + count (at? L n) l
under_suc L l n = total_plus (λ r. one (under? L (suc n) r)) (λ r. one (under? L n r)) (λ r. one (at? L n r)) (λ r. step (holder? r) (higher r.finish L)) l
  where
    step : (h : Bool) (x : ℕ) → one (not h && ltb x (suc n)) ≡ one (not h && ltb x n) + one (not h && eqb x n)
    step true x = refl
    step false x = cases (ltb x n)
        (λ t. let p = ltb-true x n t in rw (t, lt-ltb x (suc n) (omega arith), ne_eqb x n (λ e. omega arith)))
        (λ t. let p = ltb-false x n t in cases (eqb x n)
        (λ u. let q = eqb-true x n u in rw (t, u, lt-ltb x (suc n) (omega arith)))
        (λ u. let q = eqb-false x n u in rw (t, u, le-ltb x (suc n) (omega arith))))

-- from n on, at most one for each number more
few_between : (L l : List Rec) (n k : ℕ) → All (Counted L) l → Pairwise Distinct l → count (under? L (k + n)) l ≤ count (under? L n) l + k
few_between L l n zero c d = let z : 0 + n ≡ n = omega arith in rw z (omega arith)
few_between L l n (suc k) c d =
    let i = few_between L l n k c d in
    let j = one_at L l (k + n) c d in
    let e = under_suc L l (k + n) in
    let z : suc k + n ≡ suc (k + n) = omega arith in
    rw z (omega arith)

none_under : (L l : List Rec) → count (under? L 0) l ≡ 0
none_under L l = total_zero (λ r. one (under? L 0 r)) (λ r. none (holder? r) (higher r.finish L)) l
  where
    none : (h : Bool) (x : ℕ) → one (not h && ltb x 0) ≡ 0
    none true x = refl
    none false x = rw (le-ltb x 0 (omega arith))

-- a tombstone of the list has fewer above it than there are tombstones
higher_all : (L : List Rec) (b : Rec) → holder? b ≡ false → Counted L b → higher b.finish L < tombstones L
higher_all L b hb k =
    let f : Rec → ℕ = λ r. one (not (holder? r) && ltb b.finish r.finish) + one (stamped? b.finish r) in
    let e = total_plus f (λ r. one (not (holder? r) && ltb b.finish r.finish)) (λ r. one (stamped? b.finish r)) (λ r. refl) L in
    let i = total_le f (λ r. one (not (holder? r))) (λ r. step (holder? r) r.finish) L in
    let j = k hb in
    omega arith
  where
    step : (h : Bool) (n : ℕ) → one (not h && ltb b.finish n) + one (not h && eqb n b.finish) ≤ one (not h)
    step true n = omega arith
    step false n = cases (ltb b.finish n)
        (λ t. let p = ltb-true b.finish n t in rw (t, ne_eqb n b.finish (λ e. omega arith)) (omega arith))
        (λ t. let p = one_le (eqb n b.finish) in rw t (omega arith))

all_under : (l : List Rec) (t : ℕ) → tombstones l ≤ t → count (under? l t) l ≡ tombstones l
all_under l t h = total_same (Counted l) (λ r. one (under? l t r)) (λ r. one (not (holder? r))) (λ r k. cases (holder? r)
    (λ u. rw u)
    (λ u. let z = higher_all l r u k in rw (u, lt-ltb (higher r.finish l) t (omega arith)))) l (counted l)

-- is a record kept?
abbrev pub stays? : ℕ → List Rec → Rec → Bool
stays? t l r = holder? r || ltb (higher r.finish l) t

forget_under : (t : ℕ) (l : List Rec) → tombstones (forget t l) ≡ count (under? l t) l
unfolding forget
forget_under t l =
    filter_total (stays? t l) (λ r. one (not (holder? r))) l
    ∙ total_eq (λ r. cond (stays? t l r) (one (not (holder? r))) 0) (λ r. one (under? l t r)) (λ r. step (holder? r) (ltb (higher r.finish l) t)) l
  where
    step : (h b : Bool) → cond (h || b) (one (not h)) 0 ≡ one (not h && b)
    step true b = refl
    step false true = refl
    step false false = refl

pub forget_sub : (t : ℕ) (l : List Rec) → Sub (forget t l) l
unfolding forget
forget_sub t l = filter_sub (stays? t l) l

-- "forget the lowest finish numbers beyond T": t tombstones are left, or all where there are fewer ..
pub forget_count : (t : ℕ) (l : List Rec) → Pairwise Distinct l → tombstones (forget t l) ≡ min t (tombstones l)
forget_count t l d =
    let a = forget_under t l in
    cases (leb (tombstones l) t)
    (λ u. let p = leb-true (tombstones l) t u in let b = all_under l t p in omega arith)
    (λ u. let p = leb-false (tombstones l) t u in
    let k : tombstones l - t + t ≡ tombstones l = omega arith in
    let b = few_between l l t (tombstones l - t) (counted l) d in
    let c : count (under? l (tombstones l - t + t)) l ≡ tombstones l = rw k (all_under l (tombstones l) (omega arith)) in
    let e = few_between l l 0 t (counted l) d in
    let f = none_under l l in
    let z : t + 0 ≡ t = omega arith in
    let g : count (under? l t) l ≤ count (under? l 0) l + t = rw z at e in
    omega arith)

pub forget_few : (t : ℕ) (l : List Rec) → Pairwise Distinct l → tombstones (forget t l) ≤ t
forget_few t l d = let e = forget_count t l d in omega arith

-- .. and one that is forgotten has a lower number than one that stays
pub forget_lowest : (t : ℕ) (l : List Rec) (r s : Rec) → stays? t l r ≡ false → holder? s ≡ false → stays? t l s ≡ true → r.finish < s.finish
forget_lowest t l r s out hs stay = cases (ltb r.finish s.finish)
    (λ u. ltb-true r.finish s.finish u)
    (λ u. let p = ltb-false r.finish s.finish u in
    let x = ltb-false (higher r.finish l) t (or_false (holder? r) _ out).1 in
    let y = ltb-true (higher s.finish l) t (rw hs at stay) in
    let i = total_le (λ a. one (not (holder? a) && ltb r.finish a.finish)) (λ a. one (not (holder? a) && ltb s.finish a.finish)) (λ a. step (holder? a) a.finish p) l in
    absurd (omega arith))
  where
    step : (h : Bool) (n : ℕ) → s.finish ≤ r.finish → one (not h && ltb r.finish n) ≤ one (not h && ltb s.finish n)
    step true n p = omega arith
    step false n p = cases (ltb r.finish n)
        (λ t. let q = ltb-true r.finish n t in rw (t, lt-ltb s.finish n (omega arith)) (omega arith))
        (λ t. rw t (omega arith))

pub forget_sound : (m : Limits) (c : ℕ) (l : List Rec) → Core m c l → Sound m c (forget m.T l)
forget_sound m c l h = core_sound m c (forget m.T l) (sub_core m c (forget_sub m.T l) h) (forget_few m.T l h.distinct)

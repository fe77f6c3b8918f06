-- The steps of the walk over places, and of its loop, as laws over plain numbers. Assumes nothing.
use Rattle.std.specs.Prelude.{◌≡◌, refl, List, [], ◌∷◌, ℕ, zero, suc, ◌+◌, ◌-◌, ◌^◌, ◌≤◌, ◌<◌, max, length, get_or}
use Rattle.std.proofs.Common.{ap, sym, ◌∙◌, arith, le_of_suc-le-suc, pow-suc, lt-ltb, le-ltb, le-leb}
use Rattle.std.proofs.lemmas.Bool.{lt-leb}
use Rattle.queue.specs.paper.Lists.{total}
use Rattle.queue.specs.read.fees.Walk.{fitting}
use Rattle.queue.specs.read.fees.Claims.{fitting_small}
use Rattle.queue.specs.declared.read.fees.SoFar.{SoFar}
use Rattle.queue.specs.declared.read.fees.Candidate.{Candidate}
use Rattle.queue.specs.read.FeesAs.{sizes_of, fees_of}
use Rattle.queue.specs.read.fees.Masks.{places, item, visit_m, pass_m, walk_m, Shape}

pub visit_more : (s f : ℕ) (x : SoFar) → x.fee < f → record { set = s; fee = f; nodes = x.nodes + 1; bound = x.bound } ≡ visit_m s f x
unfolding visit_m
visit_more s f x h = rw (lt-ltb x.fee f h)

pub visit_less : (s f : ℕ) (x : SoFar) → f ≤ x.fee → record { set = x.set; fee = x.fee; nodes = x.nodes + 1; bound = x.bound } ≡ visit_m s f x
unfolding visit_m
visit_less s f x h = rw (le-ltb x.fee f h)

pub pass_more : (b : ℕ) (x : SoFar) → x.bound < b → record { set = x.set; fee = x.fee; nodes = x.nodes; bound = b } ≡ pass_m b x
unfolding pass_m
pass_more b x h = ap {B = SoFar} (λ (q : ℕ). record { set = x.set; fee = x.fee; nodes = x.nodes; bound = q }) (let e : b ≡ max x.bound b = omega arith in e)

pub pass_less : (b : ℕ) (x : SoFar) → b ≤ x.bound → record { set = x.set; fee = x.fee; nodes = x.nodes; bound = x.bound } ≡ pass_m b x
unfolding pass_m
pass_less b x h = ap {B = SoFar} (λ (q : ℕ). record { set = x.set; fee = x.fee; nodes = x.nodes; bound = q }) (let e : x.bound ≡ max x.bound b = omega arith in e)

-- the last k places: the next of them and the rest
pub places_next : (n k : ℕ) → 0 < k → places n k ≡ (n - k) ∷ places n (k - 1)
places_next n zero h = absurd (omega arith)
places_next n (suc k) h = rw (let e : suc k - 1 ≡ k = omega arith in e)

-- ---- the loop that sums the fees that fit: what is summed and what is left give the whole, and the sum is small
pub record Sums (sizes fees : List ℕ) (k left sum j : ℕ) : Type 0 where
  pub has : j ≤ k
  pub is : sum + fitting (item sizes) (item fees) left (places (length sizes) j) ≡ fitting (item sizes) (item fees) left (places (length sizes) k)

module _ (sizes fees : List ℕ) (k left : ℕ) where
  pub sums_start : Sums sizes fees k left 0 k
  sums_start = record { has = omega arith; is = omega arith }

  pub sums_fits : (sum j : ℕ) → 0 < j → item sizes (length sizes - j) ≤ left → Sums sizes fees k left sum j → Sums sizes fees k left (sum + item fees (length sizes - j)) (j - 1)
  sums_fits sum j h f s = record { has = let a = s.has in omega arith; is = all }
    where
      here : fitting (item sizes) (item fees) left (places (length sizes) j) ≡ item fees (length sizes - j) + fitting (item sizes) (item fees) left (places (length sizes) (j - 1))
      here = rw (places_next (length sizes) j h, le-leb (item sizes (length sizes - j)) left f)

      all : sum + item fees (length sizes - j) + fitting (item sizes) (item fees) left (places (length sizes) (j - 1)) ≡ fitting (item sizes) (item fees) left (places (length sizes) k)
      all = let a = s.is in omega (arith, here)

  pub sums_not : (sum j : ℕ) → 0 < j → left < item sizes (length sizes - j) → Sums sizes fees k left sum j → Sums sizes fees k left sum (j - 1)
  sums_not sum j h f s = record { has = let a = s.has in omega arith; is = rw (← here) s.is }
    where
      here : fitting (item sizes) (item fees) left (places (length sizes) j) ≡ fitting (item sizes) (item fees) left (places (length sizes) (j - 1))
      here = rw (places_next (length sizes) j h, lt-leb (item sizes (length sizes - j)) left f)

  pub turn_fits : (sum j sum' : ℕ) → 0 < j → item sizes (length sizes - j) ≤ left → sum' ≡ sum + item fees (length sizes - j) → Sums sizes fees k left sum j → Sums sizes fees k left sum' (j - 1)
  turn_fits sum j sum' h f e s = rw e (sums_fits sum j h f s)

  pub turn_not : (sum j sum' : ℕ) → 0 < j → left < item sizes (length sizes - j) → sum' ≡ sum → Sums sizes fees k left sum j → Sums sizes fees k left sum' (j - 1)
  turn_not sum j sum' h f e s = rw e (sums_not sum j h f s)

  pub sums_small : (sum j : ℕ) → 0 < j → item sizes (length sizes - j) ≤ left → Sums sizes fees k left sum j → sum + item fees (length sizes - j) ≤ total (item fees) (places (length sizes) k)
  sums_small sum j h f s = let a = (sums_fits sum j h f s).is in let b = fitting_small (item sizes) (item fees) left (places (length sizes) k) in omega arith

  pub sums_end : (sum j : ℕ) → j ≡ 0 → Sums sizes fees k left sum j → sum ≡ fitting (item sizes) (item fees) left (places (length sizes) k)
  sums_end sum j e s = let a : sum + fitting (item sizes) (item fees) left (places (length sizes) 0) ≡ fitting (item sizes) (item fees) left (places (length sizes) k) = rw e at s.is in omega arith

-- ---- a candidate's numbers among the sizes and the fees
pub many_sizes : (z : List Candidate) → length (sizes_of z) ≡ length z
many_sizes [] = refl
many_sizes (c ∷ z) = ap suc (many_sizes z)

pub many_fees : (z : List Candidate) → length (fees_of z) ≡ length z
many_fees [] = refl
many_fees (c ∷ z) = ap suc (many_fees z)

item_size : (z : List Candidate) (i : ℕ) (d : Candidate) → i < length z → (get_or z i d).size ≡ item (sizes_of z) i
item_size [] i d h = absurd (let y : ⊥ = omega arith in y)
item_size (c ∷ z) zero d h = refl
item_size (c ∷ z) (suc i) d h = item_size z i d (le_of_suc-le-suc h)

item_fee : (z : List Candidate) (i : ℕ) (d : Candidate) → i < length z → (get_or z i d).fee ≡ item (fees_of z) i
item_fee [] i d h = absurd (let y : ⊥ = omega arith in y)
item_fee (c ∷ z) zero d h = refl
item_fee (c ∷ z) (suc i) d h = item_fee z i d (le_of_suc-le-suc h)

abbrev pub blank : Candidate
blank = record { size = 0; fee = 0 }

pub size_here : (z : List Candidate) (i : ℕ) → i < length z → (get_or z i blank).size ≡ item (sizes_of z) (length (sizes_of z) - (length z - i))
size_here z i h = item_size z i blank h ∙ ap (item (sizes_of z)) (let e = many_sizes z in omega arith)

pub fee_here : (z : List Candidate) (i : ℕ) → i < length z → (get_or z i blank).fee ≡ item (fees_of z) (length (sizes_of z) - (length z - i))
fee_here z i h = item_fee z i blank h ∙ ap (item (fees_of z)) (let e = many_sizes z in omega arith)

pub fee_left : (z : List Candidate) (i : ℕ) → i < length z → (get_or z i blank).fee ≡ item (fees_of z) (length (fees_of z) - (length z - i))
fee_left z i h = item_fee z i blank h ∙ ap (item (fees_of z)) (let e = many_fees z in omega arith)

module _ (z : List Candidate) (k : ℕ) (p : 0 < k) (h : k ≤ length z) where
  pub size_last : (get_or z (length z - k) blank).size ≡ item (sizes_of z) (length (sizes_of z) - k)
  size_last = item_size z (length z - k) blank (omega arith) ∙ ap (λ n. item (sizes_of z) (n - k)) (sym (many_sizes z))

  pub fee_last : (get_or z (length z - k) blank).fee ≡ item (fees_of z) (length (sizes_of z) - k)
  fee_last = item_fee z (length z - k) blank (omega arith) ∙ ap (λ n. item (fees_of z) (n - k)) (sym (many_sizes z))

-- ---- the walk's steps
module _ (size fee : ℕ → ℕ) (budget : ℕ) where
  pub walk_over : (l : List ℕ) (s f left : ℕ) (x : SoFar) → budget ≤ x.nodes → walk_m size fee budget l s f left x ≡ pass_m (f + fitting size fee left l) x
  unfolding walk_m
  walk_over [] s f left x h = rw (le-ltb x.nodes budget h)
  walk_over (p ∷ l) s f left x h = rw (le-ltb x.nodes budget h)

  pub walk_end : (s f left : ℕ) (x : SoFar) → x.nodes < budget → walk_m size fee budget [] s f left x ≡ visit_m s f x
  unfolding walk_m
  walk_end s f left x h = rw (lt-ltb x.nodes budget h)

  pub walk_leave : (p : ℕ) (l : List ℕ) (s f left : ℕ) (x : SoFar) → x.nodes < budget → left < size p
      → walk_m size fee budget (p ∷ l) s f left x ≡ walk_m size fee budget l s f left (visit_m s f x)
  unfolding walk_m
  walk_leave p l s f left x h k = rw (lt-ltb x.nodes budget h, lt-leb (size p) left k)

  pub walk_take : (p : ℕ) (l : List ℕ) (s f left : ℕ) (x : SoFar) → x.nodes < budget → size p ≤ left
      → walk_m size fee budget (p ∷ l) s f left x ≡ walk_m size fee budget l s f left (walk_m size fee budget l (s + 2 ^ p) (f + fee p) (left - size p) (visit_m s f x))
  unfolding walk_m
  walk_take p l s f left x h k = rw (lt-ltb x.nodes budget h, le-leb (size p) left k)

-- ---- what the calls are given
module _ (sizes fees : List ℕ) (k bit set fee : ℕ) (h : Shape sizes fees k bit set fee) where
  -- a node with no candidate left, or with a next one
  pub sum_next : 0 < k → total (item fees) (places (length sizes) k) ≡ item fees (length sizes - k) + total (item fees) (places (length sizes) (k - 1))
  sum_next p = rw (places_next (length sizes) k p)

  bit_next : 0 < k → bit + bit ≡ 2 ^ (length sizes - (k - 1))
  bit_next p =
      let a = h.has in
      let e : length sizes - (k - 1) ≡ suc (length sizes - k) = omega arith in
      let q = pow-suc 2 (length sizes - k) in
      let b = h.next in
      rw e (omega arith)

  pub shape_leave : 0 < k → Shape sizes fees (k - 1) (bit + bit) set fee
  shape_leave p = record {
    even = h.even;
    few = h.few;
    has = let a = h.has in omega arith;
    next = bit_next p;
    low = let a = h.low in omega arith;
    sum = let a = h.sum in let b = sum_next p in omega arith;
  }

  pub shape_take : 0 < k → Shape sizes fees (k - 1) (bit + bit) (set + bit) (fee + item fees (length sizes - k))
  shape_take p = record {
    even = h.even;
    few = h.few;
    has = let a = h.has in omega arith;
    next = bit_next p;
    low = let a = h.low in omega arith;
    sum = let a = h.sum in let b = sum_next p in omega arith;
  }

  -- the fees stay within 64 bits
  pub fee_fits : (left : ℕ) → fee + fitting (item sizes) (item fees) left (places (length sizes) k) < 2 ^ 64
  fee_fits left = let a = h.sum in let b = fitting_small (item sizes) (item fees) left (places (length sizes) k) in omega arith

  -- ---- what each exit gives
  module _ (left budget : ℕ) (x : SoFar) where
    pub over : {r : SoFar} {more : ℕ} → budget ≤ x.nodes → more ≡ fitting (item sizes) (item fees) left (places (length sizes) k) → r ≡ pass_m (fee + more) x
        → r ≡ walk_m (item sizes) (item fees) budget (places (length sizes) k) set fee left x
    over b e q = q ∙ ap (λ (m : ℕ). pass_m (fee + m) x) e ∙ sym (walk_over (item sizes) (item fees) budget (places (length sizes) k) set fee left x b)

    pub end : {v : SoFar} → x.nodes < budget → k ≡ 0 → v ≡ visit_m set fee x → v ≡ walk_m (item sizes) (item fees) budget (places (length sizes) k) set fee left x
    end b e q = q ∙ sym (walk_end (item sizes) (item fees) budget set fee left x b) ∙ ap (λ (m : ℕ). walk_m (item sizes) (item fees) budget (places (length sizes) m) set fee left x) (sym e)

    pub leave : {v r : SoFar} → x.nodes < budget → 0 < k → left < item sizes (length sizes - k) → v ≡ visit_m set fee x
        → r ≡ walk_m (item sizes) (item fees) budget (places (length sizes) (k - 1)) set fee left v
        → r ≡ walk_m (item sizes) (item fees) budget (places (length sizes) k) set fee left x
    leave b p s e q =
        q ∙ ap (walk_m (item sizes) (item fees) budget (places (length sizes) (k - 1)) set fee left) e
        ∙ sym (walk_leave (item sizes) (item fees) budget (length sizes - k) (places (length sizes) (k - 1)) set fee left x b s)
        ∙ ap (λ (l : List ℕ). walk_m (item sizes) (item fees) budget l set fee left x) (sym (places_next (length sizes) k p))

    pub take_it : {v y r : SoFar} → x.nodes < budget → 0 < k → item sizes (length sizes - k) ≤ left → v ≡ visit_m set fee x
        → y ≡ walk_m (item sizes) (item fees) budget (places (length sizes) (k - 1)) (set + bit) (fee + item fees (length sizes - k)) (left - item sizes (length sizes - k)) v
        → r ≡ walk_m (item sizes) (item fees) budget (places (length sizes) (k - 1)) set fee left y
        → r ≡ walk_m (item sizes) (item fees) budget (places (length sizes) k) set fee left x
    take_it {v} b p s e d q =
        q ∙ ap (walk_m (item sizes) (item fees) budget (places (length sizes) (k - 1)) set fee left)
        (d ∙ ap (λ (m : ℕ). walk_m (item sizes) (item fees) budget (places (length sizes) (k - 1)) (set + m) (fee + item fees (length sizes - k)) (left - item sizes (length sizes - k)) v) h.next
        ∙ ap (walk_m (item sizes) (item fees) budget (places (length sizes) (k - 1)) (set + 2 ^ (length sizes - k)) (fee + item fees (length sizes - k)) (left - item sizes (length sizes - k))) e)
        ∙ sym (walk_take (item sizes) (item fees) budget (length sizes - k) (places (length sizes) (k - 1)) set fee left x b s)
        ∙ ap (λ (l : List ℕ). walk_m (item sizes) (item fees) budget l set fee left x) (sym (places_next (length sizes) k p))

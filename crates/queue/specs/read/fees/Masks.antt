-- The walk over places of lent lists, with a set as a number: place p counts 2^p in it.
use Rattle.std.specs.Prelude.{◌≡◌, cond, List, [], ◌∷◌, ℕ, zero, suc, ◌+◌, ◌-◌, ◌/◌, ◌%◌, ◌^◌, ◌≤◌, ◌<◌, max, ltb, leb, eqb, length, get_or}
use Rattle.queue.specs.paper.Lists.{total}
use Rattle.queue.specs.read.fees.Walk.{fitting}
use Rattle.queue.specs.paper.Fees.{Best}
use Rattle.queue.specs.declared.read.fees.SoFar.{SoFar}
use Rattle.queue.specs.declared.read.fees.Choice.{Choice}

-- the last k of n places
abbrev pub places : ℕ → ℕ → List ℕ
places n zero = []
places n (suc k) = (n - suc k) ∷ places n k

abbrev pub item : List ℕ → ℕ → ℕ
item l p = get_or l p 0

unfoldable pub visit_m : ℕ → ℕ → SoFar → SoFar
visit_m s f x = record {
  set = cond (ltb x.fee f) s x.set;
  fee = cond (ltb x.fee f) f x.fee;
  nodes = x.nodes + 1;
  bound = x.bound;
}

unfoldable pub pass_m : ℕ → SoFar → SoFar
pass_m b x = record { set = x.set; fee = x.fee; nodes = x.nodes; bound = max x.bound b }

unfoldable pub walk_m : (ℕ → ℕ) → (ℕ → ℕ) → ℕ → List ℕ → ℕ → ℕ → ℕ → SoFar → SoFar
walk_m size fee budget [] s f left x = cond (ltb x.nodes budget) (visit_m s f x) (pass_m (f + fitting size fee left []) x)
walk_m size fee budget (p ∷ l) s f left x = cond (ltb x.nodes budget)
    (walk_m size fee budget l s f left
    (cond (leb (size p) left) (walk_m size fee budget l (s + 2 ^ p) (f + fee p) (left - size p) (visit_m s f x)) (visit_m s f x)))
    (pass_m (f + fitting size fee left (p ∷ l)) x)

-- what a call is given: two lists of one length, at most 20; the next place's count; a set of places before it; fees that
-- stay within 64 bits
pub record Shape (sizes fees : List ℕ) (k bit set fee : ℕ) : Type 0 where
  pub even : length sizes ≡ length fees
  pub few : length sizes ≤ 20
  pub has : k ≤ length sizes
  pub next : bit ≡ 2 ^ (length sizes - k)
  pub low : set < bit
  pub sum : fee + total (item fees) (places (length sizes) k) < 2 ^ 64

-- a set of places as a number
abbrev pub mask : List ℕ → ℕ
mask s = total (λ p. 2 ^ p) s

-- and back: the places from p on, k of them, whose bits are set
abbrev pub unmask : ℕ → ℕ → ℕ → List ℕ
unmask zero p m = []
unmask (suc k) p m = cond (eqb (m % 2) 1) (p ∷ unmask k (suc p) (m / 2)) (unmask k (suc p) (m / 2))

-- the answer over places, its set as a number
unfoldable pub said : Best ℕ → Choice
said a = record { set = mask a.set; fee = a.fee; nodes = a.nodes; distance = a.distance }

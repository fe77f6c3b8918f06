-- The same search as a walk: a recursion over the undecided candidates that carries what it has found.
use Rattle.std.specs.Prelude.{cond, List, [], ◌∷◌, ◌++◌, ℕ, suc, ◌+◌, ◌-◌, max, ltb, leb}
use Rattle.queue.specs.paper.Lists.{filter, total}
use Rattle.queue.specs.paper.Fees.{Best}

-- the best set and its fee, the nodes counted, the largest bound: so far
pub record SoFar (A : Type 0) : Type 0 where
  pub set : List A
  pub fee : ℕ
  pub nodes : ℕ
  pub bound : ℕ

-- a visited node has taken `s`, with fees `f`: it is counted, and kept if it is better
abbrev pub visit : {A : Type 0} → List A → ℕ → SoFar A → SoFar A
visit s f x = record {
  set = cond (ltb x.fee f) s x.set;
  fee = cond (ltb x.fee f) f x.fee;
  nodes = suc x.nodes;
  bound = x.bound;
}

-- an unvisited node has the bound `b`
abbrev pub pass : {A : Type 0} → ℕ → SoFar A → SoFar A
pass b x = record { set = x.set; fee = x.fee; nodes = x.nodes; bound = max x.bound b }

-- at the root
abbrev pub start : {A : Type 0} → SoFar A
start = record { set = []; fee = 0; nodes = 0; bound = 0 }

-- at the end
abbrev pub told : {A : Type 0} → SoFar A → Best A
told x = record { set = x.set; fee = x.fee; nodes = x.nodes; distance = x.bound - x.fee }

module _ {A : Type 0} (size fee : A → ℕ) where
  -- the fees of those that fit singly
  abbrev pub fitting : ℕ → List A → ℕ
  fitting left l = total fee (filter (λ a. leb (size a) left) l)

  module _ (budget : ℕ) where
    -- the node that has taken `s`, with fees `f` and `left` bytes left, and has not decided the list's candidates; its parent
    -- was visited
    abbrev pub walk : List A → List A → ℕ → ℕ → SoFar A → SoFar A
    walk [] s f left x = cond (ltb x.nodes budget) (visit s f x) (pass (f + fitting left []) x)
    walk (a ∷ l) s f left x = cond (ltb x.nodes budget)
        (walk l s f left (cond (leb (size a) left) (walk l (s ++ (a ∷ [])) (f + fee a) (left - size a) (visit s f x)) (visit s f x)))
        (pass (f + fitting left (a ∷ l)) x)

    abbrev pub searched : List A → ℕ → Best A
    searched candidates limit = told (walk candidates [] 0 limit start)

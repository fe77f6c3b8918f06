-- Document 02, P12, "Best fees for a block". The search is said of any candidates with a size and a fee; then of a queue's records.
use Rattle.std.specs.Prelude.{◌≡◌, ℕ, ◌+◌, ◌-◌, ◌≤◌, min, max, Bool, true, false, cond, not, ◌&&◌, leb, List, [], ◌∷◌, ◌++◌, length, take, nat_le, nat_lt}
use Rattle.queue.specs.paper.Answer.{Answer, Refused}
use Rattle.queue.specs.Codec.{be}
use Rattle.queue.specs.Lists.{Sub}
use Rattle.queue.specs.Areas.{read_area}
use Rattle.queue.specs.paper.Records.{Bytes, Rec, Queue}
use Rattle.queue.specs.paper.Lists.{maybe, any?, total, filter, map}
use Rattle.queue.specs.paper.Sound.{content}
use Rattle.queue.specs.paper.Changing.{top}
use Rattle.queue.specs.paper.Reading.{selected_at}
use Rattle.queue.specs.paper.Calls.{ids_bytes, told_out}

-- A node: of each of the first candidates, whether it is taken. At the root none is decided.
abbrev pub Node : Type 0
Node = List Bool

-- the node where the last decision was made
abbrev pub parent : Node → Node
parent [] = []
parent (d ∷ []) = []
parent (d ∷ e ∷ n) = d ∷ parent (e ∷ n)

abbrev pub same_node? : Node → Node → Bool
same_node? [] [] = true
same_node? [] (e ∷ m) = false
same_node? (d ∷ n) [] = false
same_node? (true ∷ n) (true ∷ m) = same_node? n m
same_node? (true ∷ n) (false ∷ m) = false
same_node? (false ∷ n) (true ∷ m) = false
same_node? (false ∷ n) (false ∷ m) = same_node? n m

abbrev pub among_nodes? : Node → List Node → Bool
among_nodes? n l = any? (same_node? n) l

-- "The answer has the set in the old order, its fee, the nodes counted and the distance"
pub record Best (A : Type 0) : Type 0 where
  pub set : List A
  pub fee : ℕ
  pub nodes : ℕ
  pub distance : ℕ

module _ {A : Type 0} where
  -- the candidates that a node takes
  abbrev pub taken : List A → Node → List A
  taken [] n = []
  taken (a ∷ l) [] = []
  taken (a ∷ l) (true ∷ n) = a ∷ taken l n
  taken (a ∷ l) (false ∷ n) = taken l n

  -- the candidates that a node has not decided
  abbrev pub undecided : List A → Node → List A
  undecided [] n = []
  undecided (a ∷ l) [] = a ∷ l
  undecided (a ∷ l) (d ∷ n) = undecided l n

  -- "The search, depth first, decides the candidates in order, taking before leaving; a take that breaks the limit is no node."
  -- The nodes in this order: the root, those that take the first candidate, those that leave it.
  abbrev pub tree : (A → ℕ) → List A → ℕ → List Node
  tree size [] left = [] ∷ []
  tree size (a ∷ l) left =
      [] ∷ (cond (nat_le (size a) left) (map (λ n. true ∷ n) (tree size l (left - size a))) [] ++ map (λ n. false ∷ n) (tree size l left))

  -- the largest number of them; 0 where there are none
  abbrev pub largest : (A → ℕ) → List A → ℕ
  largest f [] = 0
  largest f (a ∷ l) = max (f a) (largest f l)

module _ {A : Type 0} (size : A → ℕ) (candidates : List A) (limit budget : ℕ) where
  -- "It counts each visited node, the root included, up to a budget"
  abbrev pub visited : List Node
  visited = take budget (tree size candidates limit)

  -- "An unvisited node with a visited parent"
  abbrev pub open? : Node → Bool
  open? n = not (among_nodes? n visited) && among_nodes? (parent n) visited

  abbrev pub outside : List Node
  outside = filter open? (tree size candidates limit)

module _ {A : Type 0} (fee : A → ℕ) (candidates : List A) where
  abbrev pub fees : Node → ℕ
  fees n = total fee (taken candidates n)

  -- "The best set of a visited node is kept, of equals the one visited first."
  abbrev pub best : Node → List Node → Node
  best n [] = n
  best n (m ∷ l) = best (cond (nat_lt (fees n) (fees m)) m n) l

module _ {A : Type 0} (size fee : A → ℕ) (candidates : List A) (limit : ℕ) where
  -- "has as its bound the fees taken plus the fees of the undecided candidates that fit singly into the bytes left"
  abbrev pub bound : Node → ℕ
  bound n = fees fee candidates n + total fee (filter (λ a. leb (size a) (limit - total size (taken candidates n))) (undecided candidates n))

  module _ (budget : ℕ) where
    -- the best node of the visited; the root's set is empty
    abbrev pub chosen : Node
    chosen = best fee candidates [] (visited size candidates limit budget)

    -- ".. and the distance: the largest of these bounds minus the fee, not below 0"
    abbrev pub best_fees_value : Best A
    best_fees_value = record {
      set = taken candidates chosen;
      fee = fees fee candidates chosen;
      nodes = length (visited size candidates limit budget);
      distance = largest bound (outside size candidates limit budget) - fees fee candidates chosen;
    }

-- ---- what is promised of the answer

-- "Every set that fits has at most fee plus distance. When the budget covers the whole tree the distance is 0. More budget never
-- gives a smaller fee." A set of candidates is their list with some left out; the answer's is one that fits, and its fee is its sum.
pub record Promises {A : Type 0} (size fee : A → ℕ) : Type 0 where
  pub at_most : (c : List A) (limit budget : ℕ) → 1 ≤ budget → (s : List A) → Sub s c → total size s ≤ limit
      → total fee s ≤ (best_fees_value size fee c limit budget).fee + (best_fees_value size fee c limit budget).distance
  pub whole : (c : List A) (limit budget : ℕ) → length (tree size c limit) ≤ budget → (best_fees_value size fee c limit budget).distance ≡ 0
  pub more : (c : List A) (limit b d : ℕ) → b ≤ d → (best_fees_value size fee c limit b).fee ≤ (best_fees_value size fee c limit d).fee
  pub part : (c : List A) (limit budget : ℕ) → Sub (best_fees_value size fee c limit budget).set c
  pub fits : (c : List A) (limit budget : ℕ) → total size (best_fees_value size fee c limit budget).set ≤ limit
  pub sum : (c : List A) (limit budget : ℕ) → (best_fees_value size fee c limit budget).fee ≡ total fee (best_fees_value size fee c limit budget).set
  pub counted : (c : List A) (limit budget : ℕ) → (best_fees_value size fee c limit budget).nodes ≡ min budget (length (tree size c limit))

-- ---- the call

-- "Candidates are the first 20 of the old selection."
abbrev pub candidates : ℕ → ℕ → Queue → List Rec
candidates now height q = take 20 (selected_at now height q)

abbrev pub size_of : Rec → ℕ
size_of r = length (content r.body)

abbrev pub fee_of : Rec → ℕ
fee_of r = r.terms.fee

-- fee 8, nodes 4, distance 8, then the ids of the set
unfoldable pub best_bytes : Best Rec → Bytes
best_bytes b = be 8 b.fee ++ (be 4 b.nodes ++ (be 8 b.distance ++ ids_bytes (map (λ r. r.id) b.set)))

-- "21, the candidates' fees sum over 18,446,744,073,709,551,615, before the search"
unfoldable pub search_of : List Rec → ℕ → ℕ → Bytes → Answer × Bytes
search_of c limit budget out =
    cond (nat_lt top (total fee_of c)) (Refused 21, out) (told_out (best_bytes (best_fees_value size_of fee_of c limit budget)) out)

-- "a budget from 1 to 2,097,151"
abbrev pub budget? : ℕ → Bool
budget? budget = nat_le 1 budget && nat_le budget 2097151

-- "a budget out of range is 5, with the other shape checks"
unfoldable pub best_fees_of : Bytes → ℕ → ℕ → ℕ → ℕ → Bytes → Answer × Bytes
best_fees_of area limit budget now height out =
    maybe (Refused 3, out) (λ q. cond (budget? budget) (search_of (candidates now height q) limit budget out) (Refused 5, out)) (read_area area)

-- The walk gives the answer by the words: it visits the first nodes of the tree, and passes by those outside.
use Rattle.std.specs.Prelude.{◌≡◌, refl, Bool, true, false, cond, not, ◌&&◌, List, [], ◌∷◌, ◌++◌, ℕ, zero, suc, ◌+◌, ◌-◌, ◌<◌, max, ltb, leb, length, take, drop}
use Rattle.std.proofs.Common.{ap, sym, ◌∙◌, append_assoc, append-nil, arith, zero-add, add-zero, length-take, lt-ltb, le-ltb}
use Rattle.std.proofs.Math.Path.{fun_ext}
use Rattle.std.proofs.Math.Nat.{sub-zero}
use Rattle.queue.specs.Codec.{cases, All, all_append}
use Rattle.queue.specs.paper.Lists.{map, filter, total}
use Rattle.queue.specs.paper.Fees.{largest, Node, parent, same_node?, among_nodes?, tree, taken, undecided, fees, best, bound, visited, outside, chosen, best_fees_value}
use Rattle.queue.specs.read.fees.Laws.{all_left, all_right, all_mono, filter_append, take_append, drop_append, length_map, take_map, drop_map, filter_map, all_map, map_all}
use Rattle.queue.specs.read.fees.Walk.{SoFar, start, visit, pass, fitting, walk, told, searched}

take_none : {B : Type 0} (n : ℕ) → take {A = B} n [] ≡ []
take_none zero = refl
take_none (suc n) = refl

take_both : (n : ℕ) (s t : List Node) → take n (map (λ (m : Node). true ∷ m) s ++ map (λ (m : Node). false ∷ m) t)
    ≡ map (λ (m : Node). true ∷ m) (take n s) ++ map (λ (m : Node). false ∷ m) (take (n - length (map (λ (m : Node). true ∷ m) s)) t)
take_both n s t =
    take_append n (map (λ (m : Node). true ∷ m) s) (map (λ (m : Node). false ∷ m) t)
    ∙ ap (λ (l : List Node). l ++ take (n - length (map (λ (m : Node). true ∷ m) s)) (map (λ (m : Node). false ∷ m) t)) (take_map (λ (m : Node). true ∷ m) n s)
    ∙ ap (λ (l : List Node). map (λ (m : Node). true ∷ m) (take n s) ++ l) (take_map (λ (m : Node). false ∷ m) (n - length (map (λ (m : Node). true ∷ m) s)) t)

pub taken_root : {A : Type 0} (l : List A) → taken l [] ≡ []
taken_root [] = refl
taken_root (a ∷ l) = refl

undecided_root : {A : Type 0} (l : List A) → undecided l [] ≡ l
undecided_root [] = refl
undecided_root (a ∷ l) = refl

module _ {A : Type 0} (size fee : A → ℕ) where
  pub bound_root : (l : List A) (left : ℕ) → bound size fee l left [] ≡ fitting size fee left l
  bound_root l left = rw (taken_root l, undecided_root l, sub-zero left) (zero-add (fitting size fee left l))

  -- nodes below one that has taken `s`, with fees `f`: they are visited in a row
  abbrev pub visits : List A → List A → ℕ → List Node → SoFar A → SoFar A
  visits l s f [] x = x
  visits l s f (n ∷ ns) x = visits l s f ns (visit (s ++ taken l n) (f + total fee (taken l n)) x)

  -- or passed by in a row
  abbrev pub passes : List A → ℕ → ℕ → List Node → SoFar A → SoFar A
  passes l f left [] x = x
  passes l f left (n ∷ ns) x = passes l f left ns (pass (f + bound size fee l left n) x)

  -- the nodes outside, with a budget for the nodes from here on
  abbrev pub rim : List A → ℕ → ℕ → List Node
  rim [] left zero = [] ∷ []
  rim [] left (suc b) = []
  rim (a ∷ l) left zero = [] ∷ []
  rim (a ∷ l) left (suc b) =
      cond (leb (size a) left) (map (λ n. true ∷ n) (rim l (left - size a) b)) []
      ++ map (λ n. false ∷ n) (rim l left (b - length (cond (leb (size a) left) (map (λ n. true ∷ n) (tree size l (left - size a))) [])))

  visits_append : (l s : List A) (f : ℕ) (ns ms : List Node) (x : SoFar A) → visits l s f (ns ++ ms) x ≡ visits l s f ms (visits l s f ns x)
  visits_append l s f [] ms x = refl
  visits_append l s f (n ∷ ns) ms x = visits_append l s f ns ms (visit (s ++ taken l n) (f + total fee (taken l n)) x)

  passes_append : (l : List A) (f left : ℕ) (ns ms : List Node) (x : SoFar A) → passes l f left (ns ++ ms) x ≡ passes l f left ms (passes l f left ns x)
  passes_append l f left [] ms x = refl
  passes_append l f left (n ∷ ns) ms x = passes_append l f left ns ms (pass (f + bound size fee l left n) x)

  visits_take : (a : A) (l s : List A) (f : ℕ) (ns : List Node) (x : SoFar A)
      → visits (a ∷ l) s f (map (λ n. true ∷ n) ns) x ≡ visits l (s ++ (a ∷ [])) (f + fee a) ns x
  visits_take a l s f [] x = refl
  visits_take a l s f (n ∷ ns) x =
      ap (λ (k : List A). visits (a ∷ l) s f (map (λ n. true ∷ n) ns) (visit k (f + (fee a + total fee (taken l n))) x)) (sym (append_assoc s (a ∷ []) (taken l n)))
      ∙ ap (λ (k : ℕ). visits (a ∷ l) s f (map (λ n. true ∷ n) ns) (visit ((s ++ (a ∷ [])) ++ taken l n) k x)) (let q : f + (fee a + total fee (taken l n)) ≡ f + fee a + total fee (taken l n) = omega arith in q)
      ∙ visits_take a l s f ns (visit ((s ++ (a ∷ [])) ++ taken l n) (f + fee a + total fee (taken l n)) x)

  visits_leave : (a : A) (l s : List A) (f : ℕ) (ns : List Node) (x : SoFar A) → visits (a ∷ l) s f (map (λ n. false ∷ n) ns) x ≡ visits l s f ns x
  visits_leave a l s f [] x = refl
  visits_leave a l s f (n ∷ ns) x = visits_leave a l s f ns (visit (s ++ taken l n) (f + total fee (taken l n)) x)

  pub bound_take : (a : A) (l : List A) (f left : ℕ) (n : Node) → f + bound size fee (a ∷ l) left (true ∷ n) ≡ f + fee a + bound size fee l (left - size a) n
  bound_take a l f left n =
      let p : left - (size a + total size (taken l n)) ≡ left - size a - total size (taken l n) = omega arith in
      rw p (omega arith)

  passes_take : (a : A) (l : List A) (f left : ℕ) (ns : List Node) (x : SoFar A)
      → passes (a ∷ l) f left (map (λ n. true ∷ n) ns) x ≡ passes l (f + fee a) (left - size a) ns x
  passes_take a l f left [] x = refl
  passes_take a l f left (n ∷ ns) x =
      ap (λ (k : ℕ). passes (a ∷ l) f left (map (λ n. true ∷ n) ns) (pass k x)) (bound_take a l f left n)
      ∙ passes_take a l f left ns (pass (f + fee a + bound size fee l (left - size a) n) x)

  passes_leave : (a : A) (l : List A) (f left : ℕ) (ns : List Node) (x : SoFar A) → passes (a ∷ l) f left (map (λ n. false ∷ n) ns) x ≡ passes l f left ns x
  passes_leave a l f left [] x = refl
  passes_leave a l f left (n ∷ ns) x = passes_leave a l f left ns (pass (f + bound size fee l left n) x)

  -- a visit and a pass touch different parts
  visit_passes : (s : List A) (k : ℕ) (l : List A) (f left : ℕ) (ms : List Node) (x : SoFar A) → visit s k (passes l f left ms x) ≡ passes l f left ms (visit s k x)
  visit_passes s k l f left [] x = refl
  visit_passes s k l f left (m ∷ ms) x = visit_passes s k l f left ms (pass (f + bound size fee l left m) x)

  visits_passes : (l s : List A) (f : ℕ) (ns : List Node) (k : List A) (g left : ℕ) (ms : List Node) (x : SoFar A)
      → visits l s f ns (passes k g left ms x) ≡ passes k g left ms (visits l s f ns x)
  visits_passes l s f [] k g left ms x = refl
  visits_passes l s f (n ∷ ns) k g left ms x =
      ap (visits l s f ns) (visit_passes (s ++ taken l n) (f + total fee (taken l n)) k g left ms x)
      ∙ visits_passes l s f ns k g left ms (visit (s ++ taken l n) (f + total fee (taken l n)) x)

  visits_nodes : (l s : List A) (f : ℕ) (ns : List Node) (x : SoFar A) → (visits l s f ns x).nodes ≡ x.nodes + length ns
  visits_nodes l s f [] x = omega arith
  visits_nodes l s f (n ∷ ns) x = let i = visits_nodes l s f ns (visit (s ++ taken l n) (f + total fee (taken l n)) x) in omega arith

  passes_nodes : (l : List A) (f left : ℕ) (ns : List Node) (x : SoFar A) → (passes l f left ns x).nodes ≡ x.nodes
  passes_nodes l f left [] x = refl
  passes_nodes l f left (n ∷ ns) x = passes_nodes l f left ns (pass (f + bound size fee l left n) x)

  -- what a visited node's two branches do
  grown : (a : A) (l s : List A) (f left : ℕ) (U W R Q : List Node) (x : SoFar A)
      → passes (a ∷ l) f left (map (λ n. true ∷ n) R ++ map (λ n. false ∷ n) Q) (visits (a ∷ l) s f (map (λ n. true ∷ n) U ++ map (λ n. false ∷ n) W) x)
      ≡ passes l f left Q (visits l s f W (passes l (f + fee a) (left - size a) R (visits l (s ++ (a ∷ [])) (f + fee a) U x)))
  grown a l s f left U W R Q x =
      ap (passes (a ∷ l) f left (map (λ n. true ∷ n) R ++ map (λ n. false ∷ n) Q))
      (visits_append (a ∷ l) s f (map (λ n. true ∷ n) U) (map (λ n. false ∷ n) W) x
      ∙ visits_leave a l s f W (visits (a ∷ l) s f (map (λ n. true ∷ n) U) x)
      ∙ ap (visits l s f W) (visits_take a l s f U x))
      ∙ passes_append (a ∷ l) f left (map (λ n. true ∷ n) R) (map (λ n. false ∷ n) Q) (visits l s f W (visits l (s ++ (a ∷ [])) (f + fee a) U x))
      ∙ passes_leave a l f left Q (passes (a ∷ l) f left (map (λ n. true ∷ n) R) (visits l s f W (visits l (s ++ (a ∷ [])) (f + fee a) U x)))
      ∙ ap (passes l f left Q) (passes_take a l f left R (visits l s f W (visits l (s ++ (a ∷ [])) (f + fee a) U x))
      ∙ sym (visits_passes l s f W l (f + fee a) (left - size a) R (visits l (s ++ (a ∷ [])) (f + fee a) U x)))

  module _ (budget : ℕ) where
    over : (l s : List A) (f left : ℕ) (x : SoFar A) → budget - x.nodes ≡ 0 → pass (f + fitting size fee left l) x ≡ passes l f left ([] ∷ []) x
    over l s f left x e = ap (λ (k : ℕ). pass (f + k) x) (sym (bound_root l left))

    pub walk_as : (l : List A) (b : ℕ) (s : List A) (f left : ℕ) (x : SoFar A) → budget - x.nodes ≡ b
        → walk size fee budget l s f left x ≡ passes l f left (rim l left b) (visits l s f (take b (tree size l left)) x)
    walk_as [] zero s f left x e = rw (le-ltb x.nodes budget (omega arith)) (over [] s f left x e)
    walk_as [] (suc b) s f left x e = rw (lt-ltb x.nodes budget (omega arith), take_none {B = Node} b, append-nil s, add-zero f) refl
    walk_as (a ∷ l) zero s f left x e = rw (le-ltb x.nodes budget (omega arith)) (over (a ∷ l) s f left x e)
    walk_as (a ∷ l) (suc b) s f left x e =
        rw (lt-ltb x.nodes budget (omega arith), append-nil s, add-zero f) (cases (leb (size a) left)
        (λ t.
        let T = tree size l (left - size a) in
        let d = b - length (map (λ n. true ∷ n) T) in
        let x1 = visit s f x in
        let z = passes l (f + fee a) (left - size a) (rim l (left - size a) b) (visits l (s ++ (a ∷ [])) (f + fee a) (take b T) x1) in
        let i = walk_as l b (s ++ (a ∷ [])) (f + fee a) (left - size a) x1 (omega arith) in
        let n1 = passes_nodes l (f + fee a) (left - size a) (rim l (left - size a) b) (visits l (s ++ (a ∷ [])) (f + fee a) (take b T) x1) in
        let n2 = visits_nodes l (s ++ (a ∷ [])) (f + fee a) (take b T) x1 in
        let n3 = length-take b T in
        let n4 = length_map (λ (n : Node). true ∷ n) T in
        let j = walk_as l d s f left z (omega arith) in
        rw t (ap (walk size fee budget l s f left) i ∙ j
        ∙ sym (grown a l s f left (take b T) (take d (tree size l left)) (rim l (left - size a) b) (rim l left d) x1)
        ∙ ap (λ (U : List Node). passes (a ∷ l) f left (map (λ n. true ∷ n) (rim l (left - size a) b) ++ map (λ n. false ∷ n) (rim l left d)) (visits (a ∷ l) s f U x1)) (sym (take_both b T (tree size l left)))))
        (λ t.
        let x1 = visit s f x in
        rw (t, sub-zero b) (walk_as l b s f left x1 (omega arith)
        ∙ sym (grown a l s f left [] (take b (tree size l left)) [] (rim l left b) x1)
        ∙ ap (λ (U : List Node). passes (a ∷ l) f left (map (λ n. false ∷ n) (rim l left b)) (visits (a ∷ l) s f U x1)) (sym (take_map (λ (n : Node). false ∷ n) b (tree size l left))))))

-- ---- the nodes are distinct
abbrev Apart : List Node → Type 0
Apart [] = Unit {0}
Apart (n ∷ l) = All (λ m. same_node? m n ≡ false) l × Apart l

all_any : {P : Node → Type 0} → ((n : Node) → P n) → (l : List Node) → All P l
all_any h [] = tt
all_any h (n ∷ l) = (h n, all_any h l)

all_drop : (P : Node → Type 0) (n : ℕ) (l : List Node) → All P l → All P (drop n l)
all_drop P zero l h = h
all_drop P (suc n) [] h = tt
all_drop P (suc n) (m ∷ l) h = all_drop P n l h.1

apart_leave : (l : List Node) → Apart l → Apart (map (λ (m : Node). false ∷ m) l)
apart_leave [] h = tt
apart_leave (n ∷ l) h = (all_map (λ (m : Node). false ∷ m) (λ m. same_node? m (false ∷ n) ≡ false) l h.0, apart_leave l h.1)

apart_both : (s t : List Node) → Apart s → Apart t → Apart (map (λ (m : Node). true ∷ m) s ++ map (λ (m : Node). false ∷ m) t)
apart_both [] t h k = apart_leave t k
apart_both (n ∷ s) t h k = (
  all_append (λ m. same_node? m (true ∷ n) ≡ false) (map (λ (m : Node). true ∷ m) s) (map (λ (m : Node). false ∷ m) t)
      (all_map (λ (m : Node). true ∷ m) (λ m. same_node? m (true ∷ n) ≡ false) s h.0)
      (all_map (λ (m : Node). false ∷ m) (λ m. same_node? m (true ∷ n) ≡ false) t (all_any (λ m. refl) t)),
  apart_both s t h.1 k,
)

not_root : (s t : List Node) → All (λ m. same_node? m [] ≡ false) (map (λ (m : Node). true ∷ m) s ++ map (λ (m : Node). false ∷ m) t)
not_root s t =
    all_append (λ m. same_node? m [] ≡ false) (map (λ (m : Node). true ∷ m) s) (map (λ (m : Node). false ∷ m) t)
    (all_map (λ (m : Node). true ∷ m) (λ m. same_node? m [] ≡ false) s (all_any (λ m. refl) s))
    (all_map (λ (m : Node). false ∷ m) (λ m. same_node? m [] ≡ false) t (all_any (λ m. refl) t))

same_self : (n : Node) → same_node? n n ≡ true
same_self [] = refl
same_self (true ∷ n) = same_self n
same_self (false ∷ n) = same_self n

-- all of a list are among them
pub all_among : (l : List Node) → All (λ n. among_nodes? n l ≡ true) l
all_among [] = tt
all_among (n ∷ l) = (rw (same_self n), all_mono (λ m. among_nodes? m l ≡ true) (λ m. among_nodes? m (n ∷ l) ≡ true) (λ m h. cases (same_node? m n) (λ t. rw t) (λ t. rw t h)) l (all_among l))

-- what comes behind the first b is not among them
none_among : (b : ℕ) (l : List Node) → Apart l → All (λ n. among_nodes? n (take b l) ≡ false) (drop b l)
none_among zero l h = all_any (λ n. refl) l
none_among (suc b) [] h = tt
none_among (suc b) (m ∷ l) h = both (drop b l) (all_drop (λ n. same_node? n m ≡ false) b l h.0) (none_among b l h.1)
  where
    both : (k : List Node) → All (λ n. same_node? n m ≡ false) k → All (λ n. among_nodes? n (take b l) ≡ false) k → All (λ n. among_nodes? n (m ∷ take b l) ≡ false) k
    both [] p q = tt
    both (n ∷ k) p q = (rw (p.0, q.0), both k p.1 q.1)

-- ---- unvisited, with a visited parent; `r` says it of the root's
abbrev edge : Bool → (Node → Bool) → Node → Bool
edge r vis [] = r
edge r vis (d ∷ n) = vis (parent (d ∷ n))

abbrev front : Bool → (Node → Bool) → List Node → List Node
front r vis l = filter (λ n. not (vis n) && edge r vis n) l

edge_below : (r d : Bool) (vis : Node → Bool) (n : Node) → edge r vis (d ∷ n) ≡ edge (vis []) (λ m. vis (d ∷ m)) n
edge_below r d vis [] = refl
edge_below r d vis (e ∷ n) = refl

front_below : (r d : Bool) (vis : Node → Bool) (l : List Node) → front r vis (map (λ (m : Node). d ∷ m) l) ≡ map (λ (m : Node). d ∷ m) (front (vis []) (λ m. vis (d ∷ m)) l)
front_below r d vis l =
    filter_map (λ (m : Node). d ∷ m) (λ n. not (vis n) && edge r vis n) l
    ∙ ap (λ (p : Node → Bool). map (λ (m : Node). d ∷ m) (filter p l)) (fun_ext (λ n. ap (λ (e : Bool). not (vis (d ∷ n)) && e) (edge_below r d vis n)))

below_none : (r d : Bool) (vis : Node → Bool) (l : List Node) → vis [] ≡ false → front (vis []) (λ m. vis (d ∷ m)) l ≡ cond (vis []) ([] ∷ []) []
    → front r vis (map (λ (m : Node). d ∷ m) l) ≡ []
below_none r d vis l h i = front_below r d vis l ∙ ap (λ (k : List Node). map (λ (m : Node). d ∷ m) k) (i ∙ ap (λ (t : Bool). cond {A = List Node} t ([] ∷ []) []) h)

below_some : (d : Bool) (vis : Node → Bool) (l : List Node) {k : List Node} → vis [] ≡ true → front true (λ m. vis (d ∷ m)) l ≡ k
    → front true vis (map (λ (m : Node). d ∷ m) l) ≡ map (λ (m : Node). d ∷ m) k
below_some d vis l h i = front_below true d vis l ∙ ap (λ (t : Bool). map (λ (m : Node). d ∷ m) (front t (λ m. vis (d ∷ m)) l)) h ∙ ap (λ (q : List Node). map (λ (m : Node). d ∷ m) q) i

root_only : (r : Bool) {l : List Node} → l ≡ [] → cond r ([] ∷ l) l ≡ cond r ([] ∷ []) []
root_only r e = rw e

module _ {A : Type 0} (size fee : A → ℕ) where
  pub tree_apart : (l : List A) (left : ℕ) → Apart (tree size l left)
  tree_apart [] left = (tt, tt)
  tree_apart (a ∷ l) left = cases (leb (size a) left)
      (λ t. rw t (not_root (tree size l (left - size a)) (tree size l left), apart_both (tree size l (left - size a)) (tree size l left) (tree_apart l (left - size a)) (tree_apart l left)))
      (λ t. rw t (not_root [] (tree size l left), apart_both [] (tree size l left) tt (tree_apart l left)))

  -- nothing is visited: the root alone can be outside
  front_none : (l : List A) (left : ℕ) (r : Bool) (vis : Node → Bool) → All (λ n. vis n ≡ false) (tree size l left)
      → front r vis (tree size l left) ≡ cond r ([] ∷ []) []
  front_none [] left r vis h = rw h.0
  front_none (a ∷ l) left r vis h = cases (leb (size a) left)
      (λ t.
      let S = map (λ (m : Node). true ∷ m) (tree size l (left - size a)) in
      let W = map (λ (m : Node). false ∷ m) (tree size l left) in
      let g : All (λ n. vis n ≡ false) (S ++ W) = rw t at h.1 in
      let i = front_none l (left - size a) (vis []) (λ m. vis (true ∷ m)) (map_all (λ (m : Node). true ∷ m) (λ n. vis n ≡ false) (tree size l (left - size a)) (all_left (λ n. vis n ≡ false) S W g)) in
      let j = front_none l left (vis []) (λ m. vis (false ∷ m)) (map_all (λ (m : Node). false ∷ m) (λ n. vis n ≡ false) (tree size l left) (all_right (λ n. vis n ≡ false) S W g)) in
      let u : filter (λ n. not (vis n) && edge r vis n) (S ++ W) ≡ [] =
      filter_append (λ n. not (vis n) && edge r vis n) S W ∙ ap (λ (k : List Node). k ++ front r vis W) (below_none r true vis (tree size l (left - size a)) h.0 i) ∙ below_none r false vis (tree size l left) h.0 j in
      rw (t, h.0) (root_only r u))
      (λ t.
      let W = map (λ (m : Node). false ∷ m) (tree size l left) in
      let g : All (λ n. vis n ≡ false) W = rw t at h.1 in
      let j = front_none l left (vis []) (λ m. vis (false ∷ m)) (map_all (λ (m : Node). false ∷ m) (λ n. vis n ≡ false) (tree size l left) g) in
      rw (t, h.0) (root_only r (below_none r false vis (tree size l left) h.0 j)))

  -- the first b are visited, and no more
  front_rim : (l : List A) (b left : ℕ) (vis : Node → Bool) → All (λ n. vis n ≡ true) (take b (tree size l left)) → All (λ n. vis n ≡ false) (drop b (tree size l left))
      → front true vis (tree size l left) ≡ rim size fee l left b
  front_rim [] zero left vis h k = front_none [] left true vis k
  front_rim [] (suc b) left vis h k = rw h.0
  front_rim (a ∷ l) zero left vis h k = front_none (a ∷ l) left true vis k
  front_rim (a ∷ l) (suc b) left vis h k = cases (leb (size a) left)
      (λ t.
      let T = tree size l (left - size a) in
      let S = map (λ (m : Node). true ∷ m) T in
      let W = map (λ (m : Node). false ∷ m) (tree size l left) in
      let g : All (λ n. vis n ≡ true) (take b (S ++ W)) = rw t at h.1 in
      let g1 : All (λ n. vis n ≡ true) (take b S ++ take (b - length S) W) = rw (take_append b S W) at g in
      let o : All (λ n. vis n ≡ false) (drop b (S ++ W)) = rw t at k in
      let o1 : All (λ n. vis n ≡ false) (drop b S ++ drop (b - length S) W) = rw (drop_append b S W) at o in
      let i = front_rim l b (left - size a) (λ m. vis (true ∷ m))
      (map_all (λ (m : Node). true ∷ m) (λ n. vis n ≡ true) (take b T) (rw (take_map (λ (m : Node). true ∷ m) b T) at (all_left (λ n. vis n ≡ true) (take b S) (take (b - length S) W) g1)))
      (map_all (λ (m : Node). true ∷ m) (λ n. vis n ≡ false) (drop b T) (rw (drop_map (λ (m : Node). true ∷ m) b T) at (all_left (λ n. vis n ≡ false) (drop b S) (drop (b - length S) W) o1))) in
      let j = front_rim l (b - length S) left (λ m. vis (false ∷ m))
      (map_all (λ (m : Node). false ∷ m) (λ n. vis n ≡ true) (take (b - length S) (tree size l left)) (rw (take_map (λ (m : Node). false ∷ m) (b - length S) (tree size l left)) at (all_right (λ n. vis n ≡ true) (take b S) (take (b - length S) W) g1)))
      (map_all (λ (m : Node). false ∷ m) (λ n. vis n ≡ false) (drop (b - length S) (tree size l left)) (rw (drop_map (λ (m : Node). false ∷ m) (b - length S) (tree size l left)) at (all_right (λ n. vis n ≡ false) (drop b S) (drop (b - length S) W) o1))) in
      rw (t, h.0) (filter_append (λ n. not (vis n) && edge true vis n) S W
      ∙ ap (λ (q : List Node). q ++ front true vis W) (below_some true vis T h.0 i)
      ∙ ap (λ (q : List Node). map (λ (m : Node). true ∷ m) (rim size fee l (left - size a) b) ++ q) (below_some false vis (tree size l left) h.0 j)))
      (λ t.
      let W = map (λ (m : Node). false ∷ m) (tree size l left) in
      let g : All (λ n. vis n ≡ true) (take b W) = rw t at h.1 in
      let o : All (λ n. vis n ≡ false) (drop b W) = rw t at k in
      let j = front_rim l b left (λ m. vis (false ∷ m))
      (map_all (λ (m : Node). false ∷ m) (λ n. vis n ≡ true) (take b (tree size l left)) (rw (take_map (λ (m : Node). false ∷ m) b (tree size l left)) at g))
      (map_all (λ (m : Node). false ∷ m) (λ n. vis n ≡ false) (drop b (tree size l left)) (rw (drop_map (λ (m : Node). false ∷ m) b (tree size l left)) at o)) in
      rw (t, h.0, sub-zero b) (below_some false vis (tree size l left) h.0 j))

  edge_parent : (vis : Node → Bool) (n : Node) → edge (vis []) vis n ≡ vis (parent n)
  edge_parent vis [] = refl
  edge_parent vis (d ∷ n) = refl

  root_visited : (l : List A) (left b : ℕ) → among_nodes? [] (take (suc b) (tree size l left)) ≡ true
  root_visited [] left b = refl
  root_visited (a ∷ l) left b = refl

  -- the walk passes by the nodes outside, each once and in the tree's order
  pub outside_rim : (l : List A) (left b : ℕ) → outside size l left (suc b) ≡ rim size fee l left (suc b)
  outside_rim l left b =
      let T = tree size l left in
      let vis : Node → Bool = λ n. among_nodes? n (take (suc b) T) in
      ap (λ (p : Node → Bool). filter p T) (fun_ext (λ n. ap (λ (e : Bool). not (vis n) && e) (sym (edge_parent vis n))))
      ∙ ap (λ (r : Bool). front r vis T) (root_visited l left b)
      ∙ front_rim l (suc b) left vis (all_among (take (suc b) T)) (none_among (suc b) T (tree_apart l left))

  -- what is kept is the best
  visits_best : (c : List A) (ns : List Node) (n : Node) (k z : ℕ)
      → visits size fee c [] 0 ns (record { set = taken c n; fee = fees fee c n; nodes = k; bound = z })
      ≡ record { set = taken c (best fee c n ns); fee = fees fee c (best fee c n ns); nodes = k + length ns; bound = z }
  visits_best c [] n k z = ap {B = SoFar A} (λ (q : ℕ). record { set = taken c n; fee = fees fee c n; nodes = q; bound = z }) (sym (add-zero k))
  visits_best c (m ∷ ns) n k z =
      let e : suc k + length ns ≡ k + suc (length ns) = omega arith in
      cases (ltb (fees fee c n) (fees fee c m))
      (λ t. rw (zero-add (fees fee c m), t, ← e) (visits_best c ns m (suc k) z))
      (λ t. rw (zero-add (fees fee c m), t, ← e) (visits_best c ns n (suc k) z))

  passes_largest : (c : List A) (limit : ℕ) (ns : List Node) (x : SoFar A)
      → passes size fee c 0 limit ns x ≡ record { set = x.set; fee = x.fee; nodes = x.nodes; bound = max x.bound (largest (bound size fee c limit) ns) }
  passes_largest c limit [] x = ap {B = SoFar A} (λ (q : ℕ). record { set = x.set; fee = x.fee; nodes = x.nodes; bound = q }) (let e : x.bound ≡ max x.bound 0 = omega arith in e)
  passes_largest c limit (n ∷ ns) x =
      passes_largest c limit ns (pass (0 + bound size fee c limit n) x)
      ∙ ap {B = SoFar A} (λ (q : ℕ). record { set = x.set; fee = x.fee; nodes = x.nodes; bound = q })
      (let e : max (max x.bound (0 + bound size fee c limit n)) (largest (bound size fee c limit) ns) ≡ max x.bound (max (bound size fee c limit n) (largest (bound size fee c limit) ns)) = omega arith in e)

  start_root : (c : List A) → start ≡ record { set = taken c []; fee = fees fee c []; nodes = 0; bound = 0 }
  start_root c = rw (taken_root c)

  -- what the walk has found at its end
  pub found : (b : ℕ) (c : List A) (limit : ℕ) → walk size fee (suc b) c [] 0 limit start
      ≡ record {
        set = taken c (chosen size fee c limit (suc b));
        fee = fees fee c (chosen size fee c limit (suc b));
        nodes = length (visited size c limit (suc b));
        bound = largest (bound size fee c limit) (outside size c limit (suc b));
      }
  found b c limit =
      let B = chosen size fee c limit (suc b) in
      let k = visited size c limit (suc b) in
      walk_as size fee (suc b) c (suc b) [] 0 limit start (omega arith)
      ∙ ap (λ (ns : List Node). passes size fee c 0 limit ns (visits size fee c [] 0 k start)) (sym (outside_rim c limit b))
      ∙ ap (λ (x : SoFar A). passes size fee c 0 limit (outside size c limit (suc b)) (visits size fee c [] 0 k x)) (start_root c)
      ∙ ap (passes size fee c 0 limit (outside size c limit (suc b))) (visits_best c k [] 0 0)
      ∙ passes_largest c limit (outside size c limit (suc b)) (record { set = taken c B; fee = fees fee c B; nodes = 0 + length k; bound = 0 })
      ∙ ap {B = SoFar A} (λ (q : ℕ). record { set = taken c B; fee = fees fee c B; nodes = q; bound = max 0 (largest (bound size fee c limit) (outside size c limit (suc b))) }) (zero-add (length k))
      ∙ ap {B = SoFar A} (λ (q : ℕ). record { set = taken c B; fee = fees fee c B; nodes = length k; bound = q })
      (let e : max 0 (largest (bound size fee c limit) (outside size c limit (suc b))) ≡ largest (bound size fee c limit) (outside size c limit (suc b)) = omega arith in e)

  pub same : (budget : ℕ) (c : List A) (limit : ℕ) → 0 < budget → searched size fee budget c limit ≡ best_fees_value size fee c limit budget
  same zero c limit h = absurd (omega arith)
  same (suc b) c limit h = ap (told) (found b c limit)

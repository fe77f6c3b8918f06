-- What the text claims of the answer, and what a reader takes for granted.
use Rattle.std.specs.Prelude.{◌≡◌, refl, Bool, true, false, cond, List, [], ◌∷◌, ◌++◌, ℕ, suc, ◌+◌, ◌-◌, ◌^◌, ◌≤◌, ◌<◌, min, ltb, leb, length, take, drop}
use Rattle.std.proofs.Common.{ap, ◌∙◌, subst, arith, pow-suc, length-append, length-take, take_all, ltb-true, ltb-false, leb-true, le-leb}
use Rattle.std.proofs.Math.Nat.{pow-le-pow_right}
use Rattle.queue.specs.Codec.{cases, All, all_append}
use Rattle.queue.specs.Lists.{Sub, done, keep, skip, sub_total}
use Rattle.queue.specs.paper.Lists.{map, filter, total}
use Rattle.queue.specs.paper.Fees.{largest, Node, among_nodes?, open?, Best, tree, taken, fees, best, bound, visited, outside, chosen, best_fees_value, Promises}
use Rattle.queue.specs.read.fees.Laws.{sub_none, sub_fits, all_take, all_mono, all_map, take_more, length_map}
use Rattle.queue.specs.read.fees.Walk.{SoFar, start, visit, pass, fitting, walk, searched}
use Rattle.queue.specs.read.fees.Same.{taken_root, bound_take, all_among, same}

module _ {A : Type 0} (size fee : A → ℕ) where
  -- ---- the set is of a node of the tree

  -- a node of the tree takes candidates in their order, and they fit
  abbrev pub Good : List A → ℕ → Node → Type 0
  Good c limit n = Sub (taken c n) c × (total size (taken c n) ≤ limit)

  good_root : (c : List A) (limit : ℕ) → Good c limit []
  good_root c limit = rw (taken_root c) (sub_none c, omega arith)

  good_take : (a : A) (l : List A) (left : ℕ) → size a ≤ left → (n : Node) → Good l (left - size a) n → Good (a ∷ l) left (true ∷ n)
  good_take a l left h n g = (keep a g.0, let k = g.1 in omega arith)

  good_leave : (a : A) (l : List A) (left : ℕ) (n : Node) → Good l left n → Good (a ∷ l) left (false ∷ n)
  good_leave a l left n g = (skip a g.0, g.1)

  pub tree_good : (c : List A) (limit : ℕ) → All (Good c limit) (tree size c limit)
  tree_good [] left = (good_root [] left, tt)
  tree_good (a ∷ l) left =
      let q = all_map (λ (n : Node). false ∷ n) (Good (a ∷ l) left) (tree size l left) (all_mono (Good l left) (λ n. Good (a ∷ l) left (false ∷ n)) (good_leave a l left) (tree size l left) (tree_good l left)) in
      cases (leb (size a) left)
      (λ t. rw t (
        good_root (a ∷ l) left,
        all_append (Good (a ∷ l) left) (map (λ (n : Node). true ∷ n) (tree size l (left - size a))) (map (λ (n : Node). false ∷ n) (tree size l left))
            (all_map (λ (n : Node). true ∷ n) (Good (a ∷ l) left) (tree size l (left - size a)) (all_mono (Good l (left - size a)) (λ n. Good (a ∷ l) left (true ∷ n)) (good_take a l left (leb-true (size a) left t)) (tree size l (left - size a)) (tree_good l (left - size a)))) q,
      ))
      (λ t. rw t (good_root (a ∷ l) left, q))

  -- the best of some nodes is one of them, or the one before them
  pub best_of : (c : List A) (P : Node → Type 0) (n : Node) (l : List Node) → P n → All P l → P (best fee c n l)
  best_of c P n [] p h = p
  best_of c P n (m ∷ l) p h = best_of c P (cond (ltb (fees fee c n) (fees fee c m)) m n) l (cases (ltb (fees fee c n) (fees fee c m)) (λ t. rw t h.0) (λ t. rw t p)) h.1

  -- no other has more
  pub best_first : (c : List A) (n : Node) (l : List Node) → fees fee c n ≤ fees fee c (best fee c n l)
  best_first c n [] = omega arith
  best_first c n (m ∷ l) = cases (ltb (fees fee c n) (fees fee c m))
      (λ t. let i = best_first c m l in let j = ltb-true (fees fee c n) (fees fee c m) t in rw t (omega arith))
      (λ t. rw t (best_first c n l))

  pub best_append : (c : List A) (n : Node) (l k : List Node) → best fee c n (l ++ k) ≡ best fee c (best fee c n l) k
  best_append c n [] k = refl
  best_append c n (m ∷ l) k = best_append c (cond (ltb (fees fee c n) (fees fee c m)) m n) l k

  -- where the best stands among them: those before it have less
  pub data Stands (c : List A) (n : Node) (l : List Node) (b : Node) : Type 0 where
    -- none has more than the one before them
    stays : b ≡ n → All (λ m. fees fee c m ≤ fees fee c b) l → Stands c n l b
    -- it is the first with the most
    stands : (p q : List Node) → l ≡ p ++ (b ∷ q) → fees fee c n < fees fee c b → All (λ m. fees fee c m < fees fee c b) p → All (λ m. fees fee c m ≤ fees fee c b) q → Stands c n l b

  stands_after : (c : List A) (n m : Node) (l : List Node) (b : Node) → fees fee c n < fees fee c m → Stands c m l b → Stands c n (m ∷ l) b
  stands_after c n m l b h (stays e k) = stands [] l (rw e) (rw e h) tt k
  stands_after c n m l b h (stands p q e g k j) = stands (m ∷ p) q (ap (λ (x : List Node). m ∷ x) e) (omega arith) (g, k) j

  stands_past : (c : List A) (n m : Node) (l : List Node) (b : Node) → fees fee c m ≤ fees fee c n → Stands c n l b → Stands c n (m ∷ l) b
  stands_past c n m l b h (stays e k) = stays e (rw e h, k)
  stands_past c n m l b h (stands p q e g k j) = stands (m ∷ p) q (ap (λ (x : List Node). m ∷ x) e) g (omega arith, k) j

  pub best_stands : (c : List A) (n : Node) (l : List Node) → Stands c n l (best fee c n l)
  best_stands c n [] = stays refl tt
  best_stands c n (m ∷ l) = cases (ltb (fees fee c n) (fees fee c m))
      (λ t. rw t (stands_after c n m l (best fee c m l) (ltb-true (fees fee c n) (fees fee c m) t) (best_stands c m l)))
      (λ t. rw t (stands_past c n m l (best fee c n l) (ltb-false (fees fee c n) (fees fee c m) t) (best_stands c n l)))

  module _ (c : List A) (limit budget : ℕ) where
    chosen_good : Good c limit (chosen size fee c limit budget)
    chosen_good = best_of c (Good c limit) [] (visited size c limit budget) (good_root c limit) (all_take (Good c limit) budget (tree size c limit) (tree_good c limit))

    -- the set is some of the candidates, in their order
    pub set_sub : Sub (best_fees_value size fee c limit budget).set c
    set_sub = chosen_good.0

    -- it fits
    pub set_fits : total size (best_fees_value size fee c limit budget).set ≤ limit
    set_fits = chosen_good.1

    -- the fee is its sum
    pub fee_sum : (best_fees_value size fee c limit budget).fee ≡ total fee (best_fees_value size fee c limit budget).set
    fee_sum = refl

    -- the nodes counted
    pub nodes_min : (best_fees_value size fee c limit budget).nodes ≡ min budget (length (tree size c limit))
    nodes_min = length-take budget (tree size c limit)

  -- "More budget never gives a smaller fee."
  pub more_budget : (c : List A) (limit b d : ℕ) → b ≤ d → (best_fees_value size fee c limit b).fee ≤ (best_fees_value size fee c limit d).fee
  more_budget c limit b d h =
      let T = tree size c limit in
      let e : chosen size fee c limit d ≡ best fee c (chosen size fee c limit b) (drop b (take d T)) =
      ap (best fee c []) (take_more b d T h) ∙ best_append c [] (take b T) (drop b (take d T)) in
      let i = best_first c (chosen size fee c limit b) (drop b (take d T)) in
      rw e i

  -- "When the budget covers the whole tree the distance is 0."
  filter_none : (p : Node → Bool) (l : List Node) → All (λ n. p n ≡ false) l → filter p l ≡ []
  filter_none p [] h = refl
  filter_none p (n ∷ l) h = rw h.0 (filter_none p l h.1)

  pub whole_outside : (c : List A) (limit budget : ℕ) → length (tree size c limit) ≤ budget → outside size c limit budget ≡ []
  whole_outside c limit budget h =
      let T = tree size c limit in
      filter_none (open? size c limit budget) T
      (all_mono (λ n. among_nodes? n T ≡ true) (λ n. open? size c limit budget n ≡ false) (λ n e. rw (take_all budget T h, e)) T (all_among T))

  pub whole_tree : (c : List A) (limit budget : ℕ) → length (tree size c limit) ≤ budget → (best_fees_value size fee c limit budget).distance ≡ 0
  whole_tree c limit budget h = rw (whole_outside c limit budget h) (omega arith)

  -- ---- "Every set that fits has at most fee plus distance."
  abbrev Up : SoFar A → SoFar A → Type 0
  Up x w = (x.fee ≤ w.fee) × (x.bound ≤ w.bound)

  up_visit : (s : List A) (f : ℕ) (x : SoFar A) → Up x (visit s f x)
  up_visit s f x = cases (ltb x.fee f)
      (λ t. let h = ltb-true x.fee f t in rw t (omega arith, omega arith))
      (λ t. rw t (omega arith, omega arith))

  visit_has : (s : List A) (f : ℕ) (x : SoFar A) → f ≤ (visit s f x).fee
  visit_has s f x = cases (ltb x.fee f)
      (λ t. rw t (omega arith))
      (λ t. let h = ltb-false x.fee f t in rw t (omega arith))

  up_pass : (b : ℕ) (x : SoFar A) → Up x (pass b x)
  up_pass b x = (omega arith, omega arith)

  up_then : (x v w : SoFar A) → Up x v → Up v w → Up x w
  up_then x v w h k = let a = h.0 in let b = h.1 in let c = k.0 in let d = k.1 in (omega arith, omega arith)

  module _ (budget : ℕ) where
    up_walk : (l s : List A) (f left : ℕ) (x : SoFar A) → Up x (walk size fee budget l s f left x)
    up_walk [] s f left x = cases (ltb x.nodes budget)
        (λ t. rw t (up_visit s f x))
        (λ t. rw t (up_pass (f + 0) x))
    up_walk (a ∷ l) s f left x = cases (ltb x.nodes budget)
        (λ t. cases (leb (size a) left)
        (λ u.
        let v = visit s f x in
        let y = walk size fee budget l (s ++ (a ∷ [])) (f + fee a) (left - size a) v in
        let z = walk size fee budget l s f left y in
        rw (t, u) (up_then x v z (up_visit s f x) (up_then v y z (up_walk l (s ++ (a ∷ [])) (f + fee a) (left - size a) v) (up_walk l s f left y))))
        (λ u. rw (t, u) (up_then x (visit s f x) (walk size fee budget l s f left (visit s f x)) (up_visit s f x) (up_walk l s f left (visit s f x)))))
        (λ t. rw t (up_pass (f + fitting size fee left (a ∷ l)) x))

    -- at most fee plus distance
    abbrev Reached : ℕ → SoFar A → Type 0
    Reached n x = n ≤ x.fee + (x.bound - x.fee)

    reached_up : (n : ℕ) (x w : SoFar A) → Reached n x → Up x w → Reached n w
    reached_up n x w h k = let a = k.0 in let b = k.1 in omega arith

    reached_pass : (n b : ℕ) (x : SoFar A) → n ≤ b → Reached n (pass b x)
    reached_pass n b x h = omega arith

    reached_has : (f : ℕ) (x : SoFar A) → f ≤ x.fee → Reached (f + 0) x
    reached_has f x h = omega arith

    reach : {t l : List A} (u : Sub t l) (s : List A) (f left : ℕ) (x : SoFar A) → total size t ≤ left → Reached (f + total fee t) (walk size fee budget l s f left x)
    reach done s f left x h = cases (ltb x.nodes budget)
        (λ e. rw e (reached_has f (visit s f x) (visit_has s f x)))
        (λ e. rw e (reached_pass (f + 0) (f + 0) x (omega arith)))
    reach (keep a {s = t} {l = l} u) s f left x h = cases (ltb x.nodes budget)
        (λ e.
        let v = visit s f x in
        let y = walk size fee budget l (s ++ (a ∷ [])) (f + fee a) (left - size a) v in
        let i = reach u (s ++ (a ∷ [])) (f + fee a) (left - size a) v (omega arith) in
        let p : f + (fee a + total fee t) ≡ f + fee a + total fee t = omega arith in
        rw (e, le-leb (size a) left (omega arith), p) (reached_up (f + fee a + total fee t) y (walk size fee budget l s f left y) i (up_walk l s f left y)))
        (λ e. let k = sub_fits size fee left (keep a u) h in rw e (reached_pass (f + total fee (a ∷ t)) (f + fitting size fee left (a ∷ l)) x (omega arith)))
    reach (skip a {s = t} {l = l} u) s f left x h = cases (ltb x.nodes budget)
        (λ e. rw e (reach u s f left (cond (leb (size a) left) (walk size fee budget l (s ++ (a ∷ [])) (f + fee a) (left - size a) (visit s f x)) (visit s f x)) h))
        (λ e. let k = sub_fits size fee left (skip a u) h in rw e (reached_pass (f + total fee t) (f + fitting size fee left (a ∷ l)) x (omega arith)))

  pub at_most_law : (c : List A) (limit budget : ℕ) → 0 < budget → (s : List A) → Sub s c → total size s ≤ limit
      → total fee s ≤ (best_fees_value size fee c limit budget).fee + (best_fees_value size fee c limit budget).distance
  at_most_law c limit budget h s u k =
      let i = reach budget u [] 0 limit (start) k in
      let j : total fee s ≤ (searched size fee budget c limit).fee + (searched size fee budget c limit).distance = omega arith in
      subst (λ (r : Best A). total fee s ≤ r.fee + r.distance) (same size fee budget c limit h) j

  -- then no set that fits has more
  pub whole_best : (c : List A) (limit budget : ℕ) → 0 < budget → length (tree size c limit) ≤ budget → (s : List A) → Sub s c → total size s ≤ limit
      → total fee s ≤ (best_fees_value size fee c limit budget).fee
  whole_best c limit budget h w s u k = let i = at_most_law c limit budget h s u k in let j = whole_tree c limit budget w in omega arith

  -- ---- the tree of 20 candidates has at most 2,097,151 nodes
  pub tree_size : (c : List A) (limit : ℕ) → length (tree size c limit) < 2 ^ suc (length c)
  tree_size [] limit = omega arith
  tree_size (a ∷ l) limit =
      let i = tree_size l (limit - size a) in
      let j = tree_size l limit in
      let p = pow-suc 2 (suc (length l)) in
      let q = length_map (λ (n : Node). false ∷ n) (tree size l limit) in
      cases (leb (size a) limit)
      (λ t.
      let r = length_map (λ (n : Node). true ∷ n) (tree size l (limit - size a)) in
      let o = length-append (map (λ (n : Node). true ∷ n) (tree size l (limit - size a))) (map (λ (n : Node). false ∷ n) (tree size l limit)) in
      rw t (omega arith))
      (λ t. rw t (omega arith))

  pub covered : (c : List A) (limit : ℕ) → length c ≤ 20 → length (tree size c limit) ≤ 2097151
  covered c limit h = let i = tree_size c limit in let k : 0 < 2 = omega arith in let j = pow-le-pow_right {n = 2} k {i = suc (length c)} {j = 21} (omega arith) in omega arith

  -- so that with the top budget no set that fits has more, and the distance says so
  pub top_budget : (c : List A) (limit : ℕ) → length c ≤ 20 → ((best_fees_value size fee c limit 2097151).distance ≡ 0) × ((s : List A) → Sub s c → total size s ≤ limit → total fee s ≤ (best_fees_value size fee c limit 2097151).fee)
  top_budget c limit h = (whole_tree c limit 2097151 (covered c limit h), whole_best c limit 2097151 (omega arith) (covered c limit h))

  -- ---- no number is over the sum of all fees
  pub fitting_small : (left : ℕ) (l : List A) → fitting size fee left l ≤ total fee l
  fitting_small left [] = omega arith
  fitting_small left (a ∷ l) = let i = fitting_small left l in cases (leb (size a) left)
      (λ t. rw t (omega arith))
      (λ t. rw t (omega arith))

  pub bound_small : (c : List A) (limit : ℕ) (n : Node) → bound size fee c limit n ≤ total fee c
  bound_small [] limit n = omega arith
  bound_small (a ∷ l) limit [] = let i = fitting_small (limit - 0) (a ∷ l) in omega arith
  bound_small (a ∷ l) limit (true ∷ n) = let i = bound_small l (limit - size a) n in let j = bound_take size fee a l 0 limit n in omega arith
  bound_small (a ∷ l) limit (false ∷ n) = let i = bound_small l limit n in omega arith

  largest_small : (c : List A) (limit : ℕ) (l : List Node) → largest (bound size fee c limit) l ≤ total fee c
  largest_small c limit [] = omega arith
  largest_small c limit (n ∷ l) = let i = largest_small c limit l in let j = bound_small c limit n in omega arith

  -- where the fees' sum is a number of 64 bits, so are the fee, every bound, and the fee plus the distance
  pub sum_small : (c : List A) (limit budget : ℕ) → (best_fees_value size fee c limit budget).fee + (best_fees_value size fee c limit budget).distance ≤ total fee c
  sum_small c limit budget = let i = sub_total fee (set_sub c limit budget) in let j = largest_small c limit (outside size c limit budget) in omega arith

  pub best_fees : Promises size fee
  best_fees = record { at_most = at_most_law; whole = whole_tree; more = more_budget; part = set_sub; fits = set_fits; sum = fee_sum; counted = nodes_min }

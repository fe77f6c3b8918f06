-- The laws of read ids: no record spends what another reads, by the ids that a record reads and does not spend; the loops that look for them. Assumes
-- nothing.
use Rattle.std.specs.Prelude.{◌≡◌, refl, Bool, true, false, not, ◌&&◌, ◌||◌, List, [], ◌∷◌, ℕ, zero, suc, ◌+◌, ◌-◌, ◌≤◌, ◌<◌, eqb, length, drop, get_or}
use Rattle.std.proofs.Common.{ap, sym, ◌∙◌, subst, arith, eqb-true, eq-eqb, leb-true}
use Rattle.std.proofs.Math.Seq.{drop-nil}
use Rattle.std.proofs.lemmas.Bool.{eqb-false}
use Rattle.queue.specs.Basics.{or_right}
use Rattle.queue.specs.Codec.{cases}
use Rattle.queue.specs.Lists.{and_true}
use Rattle.queue.specs.bytes.OrderLaws.{same_is, same_self, or_true, or_false}
use Rattle.queue.specs.layout.FrameCodec.{id_c}
use Rattle.queue.specs.layout.FormsCodec.{rec_in_value, after_in_value}
use Rattle.queue.specs.bytes.ViewAs.{view}
use Rattle.queue.specs.bytes.ReaderAs.{Found, whole, list_at}
use Rattle.queue.specs.bytes.ReaderLaws.{Turn, turn, none_left, false_true}
use Rattle.queue.specs.check.FilterAs.{hash_l, marked, has_in, held_by_value}
use Rattle.queue.specs.check.ScanAs.{unread?}
use Rattle.queue.specs.check.SuspectsAs.{id_r, no_r, meets, crosses, first?, Grown, AllMarked, Full}
use Rattle.queue.specs.check.ReadsAs.{foreign?, strange?, idle?, Foreign, Asked, Spent, Passes}
use Rattle.queue.specs.paper.Records.{Bytes, Id, Rec}
use Rattle.queue.specs.paper.Ids.{same?}
use Rattle.queue.specs.paper.Lists.{any?, all?, count}
use Rattle.queue.specs.paper.Sound.{inputs, reads, among?, used?, clash?, apart?, read?, crossed?, read_apart?}
use Rattle.queue.specs.declared.layout.frame.Form.{Form}
use Rattle.queue.specs.declared.layout.frame.Seen.{Seen}
use Rattle.queue.proofs.layout.TurnLaws.{Scan, on, FoundForm, seen_in, see_in}
use Rattle.queue.proofs.check.ScanLaws.{nothing_f}
use Rattle.queue.proofs.check.FilterLaws.{among_more, used_none, used_some, clash_some}
use Rattle.queue.proofs.check.SuspectsLaws.{all_at, all_each, meets_yes, all_first, grown_all, grown_back}

-- ---- Bool
not_true_is : (b : Bool) → not b ≡ true → b ≡ false
not_true_is true e = false_true e
not_true_is false e = refl

-- ---- some id of a list
module _ (p : Id → Bool) where
  pick : {X : Type 0} (l : List Id) → any? p l ≡ true → ((i : Id) → among? i l ≡ true → p i ≡ true → X) → X
  pick [] e k = false_true e
  pick (y ∷ l) e k = or_true (p y) (any? p l) e (λ t. k y (rw (same_self y)) t) (λ _ t. pick l t (λ i h. k i (among_more i y l h)))

  put : (x : Id) (l : List Id) → among? x l ≡ true → p x ≡ true → any? p l ≡ true
  put x [] e u = false_true e
  put x (y ∷ l) e u = cases (same? x y)
      (λ t. let q = same_is x y t in rw (← q, u))
      (λ t. or_right (p y) (put x l (rw t at e) u))

-- ---- ids that a record reads and does not spend
foreign_parts : (z : Id) (r : Rec) → foreign? z r ≡ true → (among? z (reads r.body) ≡ true) × (has_in z r ≡ false)
unfolding foreign?
foreign_parts z r e = let u = and_true (among? z (reads r.body)) (not (has_in z r)) e in (u.0, not_true_is (has_in z r) u.1)

foreign_is : (z : Id) (r : Rec) → among? z (reads r.body) ≡ true → has_in z r ≡ false → foreign? z r ≡ true
unfolding foreign?
foreign_is z r a b = rw (a, b)

foreign_read : (z : Id) (l : List Rec) → any? (foreign? z) l ≡ true → read? z l ≡ true
unfolding read?
foreign_read z [] e = false_true e
foreign_read z (r ∷ l) e = or_true (foreign? z r) (any? (foreign? z) l) e
    (λ t. rw (foreign_parts z r t).0)
    (λ _ t. or_right (among? z (reads r.body)) (foreign_read z l t))

read_foreign : (z : Id) (l : List Rec) → read? z l ≡ true → used? z l ≡ false → any? (foreign? z) l ≡ true
unfolding read? used?
read_foreign z [] e u = false_true e
read_foreign z (r ∷ l) e u =
    let n = or_false (has_in z r) (used? z l) u in
    or_true (among? z (reads r.body)) (read? z l) e
    (λ t. rw (foreign_is z r t n.0))
    (λ _ t. or_right (foreign? z r) (read_foreign z l t n.1))

crossed_parts : (ins ids : List Id) (l : List Rec) → crossed? ins ids l ≡ false → (any? (λ i. read? i l) ins ≡ false) × (clash? ids l ≡ false)
unfolding crossed?
crossed_parts ins ids l e = or_false (any? (λ i. read? i l) ins) (clash? ids l) e

crossed_none : (ins ids : List Id) (l : List Rec) → any? (λ i. read? i l) ins ≡ false → clash? ids l ≡ false → crossed? ins ids l ≡ false
unfolding crossed?
crossed_none ins ids l a b = rw (a, b)

-- an id that is spent, and read by a record that does not spend it
foreign_used : (z : Id) (l : List Rec) → read_apart? l ≡ true → used? z l ≡ true → any? (foreign? z) l ≡ true → ⊥
unfolding read_apart? used?
foreign_used z [] a u f = false_true f
foreign_used z (r ∷ l) a u f =
    let h = and_true (not (crossed? (inputs r.body) (reads r.body) l)) (read_apart? l) a in
    let c = crossed_parts (inputs r.body) (reads r.body) l (not_true_is (crossed? (inputs r.body) (reads r.body) l) h.0) in
    or_true (has_in z r) (used? z l) u
    (λ t. or_true (foreign? z r) (any? (foreign? z) l) f
    (λ g. false_true (sym (foreign_parts z r g).1 ∙ t))
    (λ _ g. false_true (sym c.0 ∙ put (λ i. read? i l) z (inputs r.body) t (foreign_read z l g))))
    (λ _ t. or_true (foreign? z r) (any? (foreign? z) l) f
    (λ g. false_true (sym c.1 ∙ clash_some l z (reads r.body) (foreign_parts z r g).0 t))
    (λ _ g. foreign_used z l h.1 t g))

pub read_no : (z : Id) (l : List Rec) → used? z l ≡ true → any? (foreign? z) l ≡ true → read_apart? l ≡ false
read_no z l u f = cases (read_apart? l) (λ t. absurd (foreign_used z l t u f)) (λ t. t)

clash_pick : {X : Type 0} (l : List Rec) (ids : List Id) → clash? ids l ≡ true → ((i : Id) → among? i ids ≡ true → used? i l ≡ true → X) → X
unfolding clash?
clash_pick l ids e k = pick (λ i. used? i l) ids e k

pub read_yes : (l : List Rec) → apart? l ≡ true → ((z : Id) → any? (foreign? z) l ≡ true → used? z l ≡ false) → read_apart? l ≡ true
unfolding read_apart? apart? used?
read_yes [] a k = refl
read_yes (r ∷ l) a k =
    let h = and_true (not (clash? (inputs r.body) l)) (apart? l) a in
    let c : clash? (inputs r.body) l ≡ false = not_true_is (clash? (inputs r.body) l) h.0 in
    let own : (i : Id) → has_in i r ≡ true → used? i l ≡ false = λ i e. cases (used? i l) (λ t. false_true (sym c ∙ clash_some l i (inputs r.body) e t)) (λ t. t) in
    let one : any? (λ i. read? i l) (inputs r.body) ≡ false = cases (any? (λ i. read? i l) (inputs r.body))
    (λ t. pick (λ i. read? i l) (inputs r.body) t (λ i e q.
    let u = or_false (has_in i r) (used? i l) (k i (or_right (foreign? i r) (read_foreign i l q (own i e)))) in
    false_true (sym u.0 ∙ e)))
    (λ t. t) in
    let two : clash? (reads r.body) l ≡ false = cases (clash? (reads r.body) l)
    (λ t. clash_pick l (reads r.body) t (λ i e q.
    let n : has_in i r ≡ false = cases (has_in i r) (λ g. false_true (sym (own i g) ∙ q)) (λ g. g) in
    let u = or_false (has_in i r) (used? i l) (k i (rw (foreign_is i r e n))) in
    false_true (sym u.1 ∙ q)))
    (λ t. t) in
    rw (crossed_none (inputs r.body) (reads r.body) l one two) (read_yes l h.1 (λ z f. (or_false (has_in z r) (used? z l) (k z (or_right (foreign? z r) f))).1))

-- nobody reads an id
no_clash : (l : List Rec) (ids : List Id) → length ids ≡ 0 → clash? ids l ≡ false
unfolding clash?
no_clash l [] e = refl
no_clash l (i ∷ ids) e = absurd (let z : ⊥ = omega arith in z)

among_none : (i : Id) (ids : List Id) → length ids ≡ 0 → among? i ids ≡ false
among_none i [] e = refl
among_none i (j ∷ ids) e = absurd (let z : ⊥ = omega arith in z)

pub unread_by : (i : Id) (l : List Rec) → all? unread? l ≡ true → read? i l ≡ false
unfolding read?
unread_by i [] e = refl
unread_by i (r ∷ l) e =
    let h = and_true (unread? r) (all? unread? l) e in
    rw (among_none i (reads r.body) (eqb-true (length (reads r.body)) 0 h.0)) (unread_by i l h.1)

pub nobody : (ids : List Id) (l : List Rec) → all? unread? l ≡ true → any? (λ i. read? i l) ids ≡ false
nobody [] l e = refl
nobody (i ∷ ids) l e = rw (unread_by i l e) (nobody ids l e)

pub read_none : (l : List Rec) → all? unread? l ≡ true → read_apart? l ≡ true
unfolding read_apart?
read_none [] e = refl
read_none (r ∷ l) e =
    let h = and_true (unread? r) (all? unread? l) e in
    rw (crossed_none (inputs r.body) (reads r.body) l (nobody (inputs r.body) l h.1) (no_clash l (reads r.body) (eqb-true (length (reads r.body)) 0 h.0))) (read_none l h.1)

-- ---- rows of read ids
drop_all : (n : ℕ) (l : List Rec) → length l ≤ n → drop n l ≡ []
drop_all n [] h = drop-nil n
drop_all zero (r ∷ l) h = absurd (let z : ⊥ = omega arith in z)
drop_all (suc n) (r ∷ l) h = drop_all n l (omega arith)

module _ (hex : Bool) (s : Bytes) (all : List Rec) where
  strange_parts : (x : ℕ) → strange? hex s all x ≡ true → (no_r x ≡ 4294967295) × (any? (foreign? (id_r hex s x)) all ≡ true)
  unfolding strange?
  strange_parts x e = let u = and_true (eqb (no_r x) 4294967295) (any? (foreign? (id_r hex s x)) all) e in (eqb-true (no_r x) 4294967295 u.0, u.1)

  strange_is : (x : ℕ) (y : Id) → id_r hex s x ≡ y → no_r x ≡ 4294967295 → any? (foreign? y) all ≡ true → strange? hex s all x ≡ true
  unfolding strange?
  strange_is x y e n f = rw (e, f, eq-eqb (no_r x) 4294967295 n)

  crosses_used : {X : Type 0} (v : List ℕ) (k : ℕ) (l : List Rec) → crosses hex s v k l ≡ true → ((i : ℕ) → i < length v → used? (id_r hex s (get_or v i 0)) l ≡ true → X) → X
  unfolding crosses used?
  crosses_used v k [] e f = false_true e
  crosses_used v k (r ∷ l) e f = or_true (meets hex s v k (inputs r.body)) (crosses hex s v (k + 1) l) e
      (λ t. meets_yes hex s v k (inputs r.body) t (λ i h m b. f i h (rw m)))
      (λ _ t. crosses_used v (k + 1) l t (λ i h u. f i h (or_right (has_in (id_r hex s (get_or v i 0)) r) u)))

  pub strange_crosses : (v : List ℕ) → all? (strange? hex s all) v ≡ true → crosses hex s v 0 all ≡ true → read_apart? all ≡ false
  strange_crosses v a e = crosses_used v 0 all e (λ i h u. read_no (id_r hex s (get_or v i 0)) all u (strange_parts (get_or v i 0) (all_at (strange? hex s all) v i a h)).1)

  pub strange_idle : (v : List ℕ) → length all < 4294967296 → all? (strange? hex s all) v ≡ true → crosses hex s v 0 all ≡ false → all? (idle? hex s all) v ≡ true
  unfolding idle? first?
  strange_idle v n a e = all_each (idle? hex s all) v (λ i h.
      let x = get_or v i 0 in
      let p = strange_parts x (all_at (strange? hex s all) v i a h) in
      let d : drop (no_r x) all ≡ [] = drop_all (no_r x) all (omega (arith, p.0)) in
      let c = rw d at (leb-true (count (has_in (id_r hex s x)) all) (count (has_in (id_r hex s x)) (drop (no_r x) all)) (all_at (first? hex s all) v i (all_first hex s v all e) h)) in
      rw (used_none (id_r hex s x) all (omega arith)))

-- ---- one id
module _ (t : List ℕ) {h : ℕ} {b : Bool} (y : Id) (ins : List Id) (e : h ≡ hash_l y) (q : b ≡ marked t h) where
  pub suspect_seen : {r : Bool} → b ≡ true → r ≡ among? y ins → not r ≡ (marked t (hash_l y) && not (among? y ins))
  suspect_seen f g = let m : marked t (hash_l y) ≡ true = ap (marked t) (sym e) ∙ sym q ∙ f in rw (m, g)

  pub suspect_new : b ≡ false → false ≡ (marked t (hash_l y) && not (among? y ins))
  suspect_new f = let m : marked t (hash_l y) ≡ false = ap (marked t) (sym e) ∙ sym q ∙ f in rw m

pub full_spent : {last hex : Bool} {s : Bytes} {all : List Rec} {z : List ℕ} → all? (strange? hex s all) z ≡ true → Full last hex s all z → Spent last all
full_spent {hex = hex} {s} {all} {z} a g = record { bad = λ e. strange_crosses hex s all z a (g.bad e) }

only : (x y : Id) → among? x (y ∷ []) ≡ true → y ≡ x
only x y e = or_true (same? x y) false e (λ t. sym (same_is x y t)) (λ _ t. false_true t)

-- nobody spends one of these ids that is not one of ins
record Idle (all : List Rec) (ids ins : List Id) : Type 0 where
  each : (x : Id) → among? x ids ≡ true → among? x ins ≡ false → used? x all ≡ false

module _ {all : List Rec} {ins : List Id} (y : Id) where
  free : used? y all ≡ false → Idle all (y ∷ []) ins
  free u = record { each = λ x e _. subst (λ (d : Id). used? d all ≡ false) (only x y e) u }

  own : among? y ins ≡ true → Idle all (y ∷ []) ins
  own t = record { each = λ x e n. false_true (sym n ∙ subst (λ (d : Id). among? d ins ≡ true) (only x y e) t) }

  module _ (t : List ℕ) {b : Bool} (q : b ≡ (marked t (hash_l y) && not (among? y ins))) where
    idle : b ≡ false → AllMarked all t → Idle all (y ∷ []) ins
    idle f m = cases (among? y ins)
        (λ i. own i)
        (λ i. cases (used? y all) (λ u. false_true (sym f ∙ q ∙ rw (m.each y u, i))) (λ u. free u))

    module _ {hex : Bool} {s : Bytes} {z : List ℕ} (a : all? (strange? hex s all) z ≡ true) where
      pub asked_skip : b ≡ false → AllMarked all t → Asked hex s all (y ∷ []) ins z z
      asked_skip f m = record { odd = a; back = λ i. i; one = λ _. (idle f m).each }

      module _ {w : ℕ} (f : b ≡ true) (i : id_r hex s w ≡ y) (n : no_r w ≡ 4294967295) (o : Foreign all (y ∷ []) ins) (l : length all < 4294967296) where
        pub row_asked : {z' : List ℕ} → Grown hex s all z w z' → Asked hex s all (y ∷ []) ins z z'
        unfolding idle?
        row_asked {z'} g =
            let u = and_true (marked t (hash_l y)) (not (among? y ins)) (sym q ∙ f) in
            let c = strange_is hex s all w y i n (o y (rw (same_self y)) (not_true_is (among? y ins) u.1)) in
            let back : all? (idle? hex s all) z' ≡ true → (all? (idle? hex s all) z ≡ true) × (idle? hex s all w ≡ true) = λ d. grown_back g (idle? hex s all) (strange_idle hex s all z l a) d in
            record {
              odd = grown_all g (strange? hex s all) a c;
              back = λ d. (back d).0;
              one = λ d x h _. subst (λ (j : Id). used? j all ≡ false) (only x y h) (not_true_is (used? y all) (rw i at (back d).1));
            }

  -- without rows
  pub passes_own : {b : Bool} → b ≡ among? y ins → b ≡ true → Passes all (y ∷ []) ins true
  passes_own q t = record { yes = λ _. (own (sym q ∙ t)).each; no = λ e. false_true (sym e) }

  pub passes_held : {b : Bool} {c : ℕ} → Foreign all (y ∷ []) ins → b ≡ among? y ins → b ≡ false → c ≡ held_by_value all y → Passes all (y ∷ []) ins (eqb c 0)
  unfolding held_by_value
  passes_held {b} {c} o e f k = cases (eqb c 0)
      (λ t. let h = eqb-true c 0 t in rw t (record { yes = λ _. (free (used_none y all (omega arith))).each; no = λ u. false_true (sym u) }))
      (λ t. let h = eqb-false c 0 t in rw t (record {
        yes = λ u. false_true u;
        no = λ _. read_no y all (used_some y all (above (count (has_in y) all) (λ g. h (k ∙ g)))) (o y (rw (same_self y)) (sym e ∙ f));
      }))
    where
      above : (m : ℕ) → (m ≡ 0 → ⊥) → 0 < m
      above zero h = absurd (h refl)
      above (suc m) h = omega arith

-- ---- the read ids of a record: those before i are passed
pub record Asking (hex : Bool) (s : Bytes) (all : List Rec) (v : Bytes) (own ins : List Id) (z₀ : List ℕ) (i left : ℕ) (z : List ℕ) : Type 0 where
  pub within : i ≤ length v
  pub whole : whole id_c left v i ≡ true
  pub part : (x : Id) → among? x (list_at id_c left v i) ≡ true → among? x own ≡ true
  pub odd : all? (strange? hex s all) z ≡ true
  pub back : all? (idle? hex s all) z ≡ true → all? (idle? hex s all) z₀ ≡ true
  pub one : all? (idle? hex s all) z ≡ true → (x : Id) → among? x own ≡ true → among? x (list_at id_c left v i) ≡ false → among? x ins ≡ false → used? x all ≡ false

pub asking : (hex : Bool) (s : Bytes) (all : List Rec) (v : Bytes) (ins : List Id) (m at : ℕ) (z : List ℕ) → at ≤ length v → whole id_c m v at ≡ true → all? (strange? hex s all) z ≡ true → Asking hex s all v (list_at id_c m v at) ins z at m z
asking hex s all v ins m at z h w a = record { within = h; whole = w; part = λ x p. p; odd = a; back = λ f. f; one = λ _ x a n _. false_true (sym n ∙ a) }

module _ {hex : Bool} {s : Bytes} {all : List Rec} {v : Bytes} {own ins : List Id} {z₀ : List ℕ} {i left : ℕ} {z : List ℕ} (x : Asking hex s all v own ins z₀ i left z) where
  module _ {next : ℕ} {y : Id} (p : 0 < left) (r : Found id_c v i next (λ w. w ≡ y)) where
    pub asking_turn : Turn id_c v left i next (λ w. w ≡ y)
    asking_turn = turn left x.whole p r

    rest_is : (d : Id) → among? d (list_at id_c left v i) ≡ (same? d y || among? d (list_at id_c (left - 1) v next))
    rest_is d = let u = asking_turn in rw (u.list, u.is)

    pub asking_odd : Foreign all own ins → Foreign all (y ∷ []) ins
    asking_odd o d e n = o d (x.part d (rest_is d ∙ or_true (same? d y) false e (λ q. rw q) (λ _ q. false_true q))) n

    pub asking_go : {z' : List ℕ} → Asked hex s all (y ∷ []) ins z z' → Asking hex s all v own ins z₀ next (left - 1) z'
    asking_go g =
        let u = asking_turn in
        record {
          within = u.within;
          whole = u.rest;
          part = λ d q. x.part d (rest_is d ∙ or_right (same? d y) q);
          odd = g.odd;
          back = λ a. x.back (g.back a);
          one = λ a d o n j. cases (same? d y) (λ q. g.one a d (rw q) j) (λ q. x.one (g.back a) d o (rest_is d ∙ rw q n) j);
        }

  pub asking_end : left ≡ 0 → Asked hex s all own ins z₀ z
  asking_end e = record { odd = x.odd; back = x.back; one = λ a d o n. x.one a d o (ap (among? d) (none_left id_c v left i e).0) n }

-- a read id that passed without rows
pub asked_passed : {hex : Bool} {s : Bytes} {all : List Rec} {ids ins : List Id} {b : Bool} → Passes all ids ins b → b ≡ true → Asked hex s all ids ins [] []
asked_passed g f = record { odd = refl; back = λ i. i; one = λ _. g.yes f }

pub passes_no : {all : List Rec} {ids ids' ins : List Id} {b : Bool} → Passes all ids ins b → b ≡ false → Passes all ids' ins false
passes_no g f = record { yes = λ u. false_true u; no = λ _. g.no f }

pub passes_yes : {hex : Bool} {s : Bytes} {all : List Rec} {ids ins : List Id} → Asked hex s all ids ins [] [] → Passes all ids ins true
passes_yes g = record { yes = λ _. g.one refl; no = λ u. false_true (sym u) }

-- ---- the records: those before rest are passed, if the rows are
pub record Over (hex : Bool) (s : Bytes) (all rest : List Rec) (z : List ℕ) : Type 0 where
  pub part : (x : Id) → any? (foreign? x) rest ≡ true → any? (foreign? x) all ≡ true
  pub odd : all? (strange? hex s all) z ≡ true
  pub none : all? (idle? hex s all) z ≡ true → (x : Id) → any? (foreign? x) all ≡ true → any? (foreign? x) rest ≡ false → used? x all ≡ false

pub over_start : (hex : Bool) (s : Bytes) (all : List Rec) → Over hex s all all []
over_start hex s all = record { part = λ _ e. e; odd = refl; none = λ _ x a n. false_true (sym n ∙ a) }

over_go : {hex : Bool} {s : Bytes} {all : List Rec} (r : Rec) (l : List Rec) {z z' : List ℕ} → Over hex s all (r ∷ l) z → Asked hex s all (reads r.body) (inputs r.body) z z' → Over hex s all l z'
over_go r l w g = record {
  part = λ x e. w.part x (or_right (foreign? x r) e);
  odd = g.odd;
  none = λ i x a n. cases (foreign? x r)
      (λ t. let p = foreign_parts x r t in g.one i x p.0 p.1)
      (λ t. w.none (g.back i) x a (rw t n));
}

over_end : {hex : Bool} {s : Bytes} {all : List Rec} {z : List ℕ} {b : Bool} → Over hex s all [] z → apart? all ≡ true → length all < 4294967296 → b ≡ crosses hex s z 0 all → not b ≡ read_apart? all
over_end {hex} {s} {all} {z} {b = true} w a l e = sym (strange_crosses hex s all z w.odd (sym e))
over_end {hex} {s} {all} {z} {b = false} w a l e = sym (read_yes all a (λ x f. w.none (strange_idle hex s all z l w.odd (sym e)) x f refl))

module _ (form : Form) {s : Bytes} {n at i left : ℕ} {z : List ℕ} (x : Scan (rec_in_value form) nothing_f s n at tt i left tt) (w : Over form.hex s (list_at (rec_in_value form) n s at) (list_at (rec_in_value form) left s i) z) where
  module _ {m : ℕ} {y : Seen} (p : 0 < left) (r : FoundForm form s i m y) where
    pub over_odd : Foreign (list_at (rec_in_value form) n s at) (list_at id_c y.facts.reads (view form.hex s i) y.reads) (list_at id_c y.facts.ins (view form.hex s i) y.at)
    over_odd d e o =
        let u = seen_in form x p r in
        let f = foreign_is d u.item (ap (among? d) (sym u.is.0.reads_list) ∙ e) (ap (among? d) (sym u.is.0.ins_list) ∙ o) in
        w.part d (rw (u.list, f))

    pub over_on : {z' : List ℕ} {j : ℕ}
        → Asked form.hex s (list_at (rec_in_value form) n s at) (list_at id_c y.facts.reads (view form.hex s i) y.reads) (list_at id_c y.facts.ins (view form.hex s i) y.at) z z'
        → j ≡ after_in_value form.hex s i m → Scan (rec_in_value form) nothing_f s n at tt j (left - 1) tt × Over form.hex s (list_at (rec_in_value form) n s at) (list_at (rec_in_value form) (left - 1) s j) z'
    unfolding nothing_f
    over_on {j = j} g e =
        let u = see_in form x p r e in
        (on x tt p u refl, over_go u.item (list_at (rec_in_value form) (left - 1) s j) (rw u.list at w) (rw (u.is.0.reads_list, u.is.0.ins_list) at g))

  module _ (a : apart? (list_at (rec_in_value form) n s at) ≡ true) (e : left ≡ 0) where
    pub over_last : {b : Bool} → length (list_at (rec_in_value form) n s at) < 4294967296 → b ≡ crosses form.hex s z 0 (list_at (rec_in_value form) n s at) → not b ≡ read_apart? (list_at (rec_in_value form) n s at)
    over_last l h = over_end (rw (none_left (rec_in_value form) s left i e).0 at w) a l h

    pub over_all : all? (idle? form.hex s (list_at (rec_in_value form) n s at)) z ≡ true → true ≡ read_apart? (list_at (rec_in_value form) n s at)
    over_all q = let v = rw (none_left (rec_in_value form) s left i e).0 at w in sym (read_yes (list_at (rec_in_value form) n s at) a (λ d f. v.none q d f refl))

-- ---- two tests
pub both_no : {r a : Bool} (b : Bool) → r ≡ a → r ≡ false → false ≡ (a && b)
both_no b e f = rw (← e, f)

pub both_yes : {r a : Bool} (b : Bool) {x : Bool} → r ≡ a → r ≡ true → x ≡ b → x ≡ (a && b)
both_yes b e f g = g ∙ rw (← e, f)

-- The spot of an id among the records of an area, and the records with a new one there. Assumes nothing.
use Rattle.std.specs.Prelude.{◌≡◌, refl, true, false, cond, not, List, [], ◌∷◌, ◌++◌, ℕ, zero, suc, ◌+◌, ◌-◌, ◌≤◌, ◌<◌, length, drop, take}
use Rattle.std.proofs.Common.{ap, sym, ◌∙◌, append_assoc, append-nil, arith, length-append, length-drop, take-append-drop, drop-drop, eq-eqb, ne_eqb}
use Rattle.std.proofs.Math.Option.{Option, none, some}
use Rattle.queue.proofs.check.AreaLaws.{fit, recs_here}
use Rattle.queue.specs.check.AreaAs.{AreaIn}
use Rattle.queue.specs.Basics.{join_same, join_four, drop_past}
use Rattle.queue.specs.Codec.{All, encs}
use Rattle.queue.specs.Lists.{Pairwise, all_map}
use Rattle.queue.specs.bytes.PutAs.{Put}
use Rattle.queue.specs.bytes.OrderLaws.{below_trans, below_not_same, cmp_flip}
use Rattle.queue.specs.layout.FrameCodec.{rec_c}
use Rattle.queue.specs.bytes.ReaderAs.{list_at}
use Rattle.queue.specs.bytes.ReaderLaws.{false_true}
use Rattle.queue.specs.layout.FormsCodec.{form_c, after_in_value}
use Rattle.queue.specs.theorems.SoundParts.{Before}
use Rattle.queue.specs.read.FindAs.{spot, spot_f, SpotAs, recs_in, SpotIn}
use Rattle.queue.specs.paper.Records.{Bytes, Id, Rec}
use Rattle.queue.specs.paper.Lists.{filter, find, insert}
use Rattle.queue.specs.paper.Ids.{cmp_l, below?}
use Rattle.queue.specs.paper.Changing.{named?, put}
use Rattle.queue.specs.declared.layout.frame.Seen.{Seen}
use Rattle.queue.specs.declared.check.area.Area.{Area}
use Rattle.queue.specs.read.FindAs.{SpotNumbers}
use Rattle.queue.proofs.layout.TurnLaws.{Scan, seen, see, on, stop, end, FoundRec, encs_append}
use Rattle.queue.proofs.bytes.PutLaws.{then, recast}
use Rattle.queue.proofs.bytes.PutByteLaws.{between}
use Rattle.queue.proofs.read.ReadingLaws.{one_here}

-- ---- the loop
unfoldable pub spots_f : Id → ℕ → List Rec → Option Rec × SpotNumbers
spots_f z at l = (find (named? z) l, spot_f z at l)

module _ (z : Id) {s : Bytes} {n at i left : ℕ} (x : Scan (form_c false rec_c) (spots_f z) s n at at i left i) where
  pub spot_go : {m j : ℕ} {y : Seen} → 0 < left → FoundRec false s i m y → j ≡ after_in_value false s i m → (cmp_l z y.id ≡ 0 → ⊥) → (cmp_l z y.id ≡ 1 → ⊥) → Scan (form_c false rec_c) (spots_f z) s n at at j (left - 1) j
  unfolding spots_f spot_f after_in_value
  spot_go {m} {j} h r g e f =
      let t = see false x h r g in
      let k : i + length (rec_c.enc t.item) ≡ j = omega (arith, t.is.1.size) in
      on x j h t (rw (← t.is.0.id, ne_eqb _ _ e, ne_eqb _ _ f, k))

  pub spot_before : {m : ℕ} {y : Seen} → 0 < left → FoundRec false s i m y → cmp_l z y.id ≡ 0 → SpotAs s z at (list_at (form_c false rec_c) n s at) (record { found = false; at = i; next = i })
  unfolding spots_f spot_f after_in_value
  spot_before {m} h r e =
      let t = seen false x h r in
      let u : spot false i i ≡ spot_f z i (t.item ∷ list_at (form_c false rec_c) (left - 1) s (i + m)) = rw (← t.is.0.id, eq-eqb _ _ e) in
      record { is = u ∙ ap (λ p. p.1) (stop x t refl); here = λ v. false_true v }

  pub spot_same : {m j : ℕ} {y : Seen} → 0 < left → FoundRec false s i m y → j ≡ after_in_value false s i m → cmp_l z y.id ≡ 1 → SpotAs s z at (list_at (form_c false rec_c) n s at) (record { found = true; at = i; next = j })
  unfolding spots_f spot_f after_in_value
  spot_same {m} {j} h r g e =
      let t = seen false x h r in
      let c : cmp_l z t.item.id ≡ 1 = ap (cmp_l z) (sym t.is.0.id) ∙ e in
      let k : i + length (rec_c.enc t.item) ≡ j = omega (arith, t.is.1.size) in
      let u : spot true i j ≡ spot_f z i (t.item ∷ list_at (form_c false rec_c) (left - 1) s (i + m)) = rw (c, k) in
      let v : some t.item ≡ find (named? z) (t.item ∷ list_at (form_c false rec_c) (left - 1) s (i + m)) = rw c in
      let o = one_here s i (i + m) t.item t.here in
      let f = stop x t refl in
      record { is = u ∙ ap (λ p. p.1) f; here = λ _. (t.item, sym (v ∙ ap (λ p. p.0) f), (x.within, o.0, o.1)) }

  pub spot_last : left ≡ 0 → SpotAs s z at (list_at (form_c false rec_c) n s at) (record { found = false; at = i; next = i })
  unfolding spots_f spot_f
  spot_last e = record { is = ap (λ p. p.1) (end x e); here = λ v. false_true v }

-- ---- records that are all higher than z
abbrev Above : Id → Rec → Type 0
Above z r = below? z r.id ≡ true

all_stay : (z : Id) (l : List Rec) → All (Above z) l → filter (λ x. not (named? z x)) l ≡ l
all_stay z [] h = refl
all_stay z (x ∷ l) h = rw (below_not_same z x.id h.0) (ap (λ (k : List Rec). x ∷ k) (all_stay z l h.1))

not_there : (z : Id) (l : List Rec) → All (Above z) l → find (named? z) l ≡ none
not_there z [] h = refl
not_there z (x ∷ l) h = rw (below_not_same z x.id h.0) (not_there z l h.1)

goes_first : (r : Rec) (l : List Rec) → All (Above r.id) l → insert (λ x y. below? x.id y.id) r l ≡ r ∷ l
goes_first r [] h = refl
goes_first r (x ∷ l) h = rw h.0

put_first : (r : Rec) (l : List Rec) → All (Above r.id) l → put r l ≡ r ∷ l
put_first r l h = ap (insert (λ x y. below? x.id y.id) r) (all_stay r.id l h) ∙ goes_first r l h

-- not found, it is nowhere
absent : (z : Id) (l : List Rec) (at : ℕ) → Pairwise Before l → (spot_f z at l).found ≡ false → find (named? z) l ≡ none
unfolding spot_f
absent z [] at h f = refl
absent z (x ∷ l) at h f = go (cmp_l z x.id) refl (absent z l (at + length (rec_c.enc x)) h.1)
  where
    go : (c : ℕ) → cmp_l z x.id ≡ c → ((spot_f z (at + length (rec_c.enc x)) l).found ≡ false → find (named? z) l ≡ none) → find (named? z) (x ∷ l) ≡ none
    go zero e i =
        let b = eq-eqb (cmp_l z x.id) 0 e in
        not_there z (x ∷ l) (b, all_map l (λ y k. below_trans z x.id y.id b k) h.0)
    go (suc zero) e i =
        let v : spot_f z at (x ∷ l) ≡ spot true at (at + length (rec_c.enc x)) = rw e in
        false_true (sym f ∙ ap (λ p. p.found) v)
    go (suc (suc c)) e i =
        let n0 : cmp_l z x.id ≡ 0 → ⊥ = λ f. let y : suc (suc c) ≡ 0 = sym e ∙ f in omega arith in
        let n1 : cmp_l z x.id ≡ 1 → ⊥ = λ f. let y : suc (suc c) ≡ 1 = sym e ∙ f in omega arith in
        let v : spot_f z at (x ∷ l) ≡ spot_f z (at + length (rec_c.enc x)) l = rw (ne_eqb _ _ n0, ne_eqb _ _ n1) in
        let k : find (named? z) (x ∷ l) ≡ find (named? z) l = rw (ne_eqb _ _ n1) in
        k ∙ i (ap (λ p. p.found) (sym v) ∙ f)

-- the paper's put over the first record
module _ (r x : Rec) (l : List Rec) where
  put_over : cmp_l r.id x.id ≡ 1 → put r (x ∷ l) ≡ put r l
  put_over e = rw e

  put_later : (cmp_l r.id x.id ≡ 0 → ⊥) → (cmp_l r.id x.id ≡ 1 → ⊥) → put r (x ∷ l) ≡ x ∷ put r l
  put_later e f = rw (ne_eqb _ _ f, ne_eqb _ _ e)

-- ---- the records in three parts: those before, the one of this id if there is one, those behind
pub record Split (r : Rec) (l : List Rec) (at : ℕ) (x : SpotNumbers) : Type 0 where
  pub before : List Rec
  pub old : List Rec
  pub behind : List Rec
  pub list : l ≡ before ++ (old ++ behind)
  pub here : x.at ≡ at + length (encs rec_c before)
  pub next : x.next ≡ x.at + length (encs rec_c old)
  pub many : length old ≡ cond x.found 1 0
  pub placed : put r l ≡ before ++ (r ∷ behind)

respot : {r : Rec} {l : List Rec} {at : ℕ} {x y : SpotNumbers} → x ≡ y → Split r l at y → Split r l at x
respot e h = record {
  before = h.before;
  old = h.old;
  behind = h.behind;
  list = h.list;
  here = ap (λ p. p.at) e ∙ h.here;
  next = ap (λ p. p.next) e ∙ h.next ∙ ap (λ p. p.at + length (encs rec_c h.old)) (sym e);
  many = h.many ∙ ap (λ p. cond p.found 1 0) (sym e);
  placed = h.placed;
}

split : (r : Rec) (l : List Rec) (at : ℕ) → Pairwise Before l → Split r l at (spot_f r.id at l)
unfolding spot_f encs
split r [] at h = record { before = []; old = []; behind = []; list = refl; here = omega arith; next = omega arith; many = refl; placed = refl }
split r (x ∷ l) at h = go (cmp_l r.id x.id) refl (split r l (at + length (rec_c.enc x)) h.1)
  where
    go : (c : ℕ) → cmp_l r.id x.id ≡ c → Split r l (at + length (rec_c.enc x)) (spot_f r.id (at + length (rec_c.enc x)) l) → Split r (x ∷ l) at (spot_f r.id at (x ∷ l))
    go zero e i =
        let b = eq-eqb (cmp_l r.id x.id) 0 e in
        let u : All (Above r.id) (x ∷ l) = (b, all_map l (λ y k. below_trans r.id x.id y.id b k) h.0) in
        let v : spot_f r.id at (x ∷ l) ≡ spot false at at = rw b in
        respot v (record { before = []; old = []; behind = x ∷ l; list = refl; here = omega arith; next = omega arith; many = refl; placed = put_first r (x ∷ l) u })
    go (suc zero) e i =
        let j = (cmp_flip r.id x.id).1 e in
        let u : All (Above r.id) l = rw j h.0 in
        let v : spot_f r.id at (x ∷ l) ≡ spot true at (at + length (rec_c.enc x)) = rw e in
        respot v (record { before = []; old = x ∷ []; behind = l; list = refl; here = omega arith; next = ap (λ k. at + length k) (sym (append-nil (rec_c.enc x))); many = refl; placed = put_over r x l e ∙ put_first r l u })
    go (suc (suc c)) e i =
        let n0 : cmp_l r.id x.id ≡ 0 → ⊥ = λ f. let y : suc (suc c) ≡ 0 = sym e ∙ f in omega arith in
        let n1 : cmp_l r.id x.id ≡ 1 → ⊥ = λ f. let y : suc (suc c) ≡ 1 = sym e ∙ f in omega arith in
        let v : spot_f r.id at (x ∷ l) ≡ spot_f r.id (at + length (rec_c.enc x)) l = rw (ne_eqb _ _ n0, ne_eqb _ _ n1) in
        respot v (record {
          before = x ∷ i.before;
          old = i.old;
          behind = i.behind;
          list = ap (λ (k : List Rec). x ∷ k) i.list;
          here = omega (arith, i.here, length-append (rec_c.enc x) (encs rec_c i.before));
          next = i.next;
          many = i.many;
          placed = put_later r x l n0 n1 ∙ ap (λ (k : List Rec). x ∷ k) i.placed;
        })

-- ---- the bytes of the parts

module _ {s : Bytes} {a : Area} (w : AreaIn s a) (r : Rec) {z : Id} (ri : r.id ≡ z) {x : SpotNumbers} (p : SpotIn s a z x) where
  parts : Split r (recs_in s a) a.open.start x
  parts =
      let l = w.read.store.list in
      let h : Pairwise Before (recs_in s a) = rw l (fit w.read).sound.rising in
      let e : x ≡ spot_f r.id a.open.start (recs_in s a) = p.is ∙ ap (λ i. spot_f i a.open.start (recs_in s a)) (sym ri) in
      respot e (split r (recs_in s a) a.open.start h)

  abbrev front : Bytes
  front = encs rec_c parts.before

  abbrev mid : Bytes
  mid = encs rec_c parts.old

  abbrev rear : Bytes
  rear = encs rec_c parts.behind

  all_here : drop a.open.start s ≡ front ++ (mid ++ (rear ++ drop a.open.next s))
  all_here =
      let st = w.read.store in
      let n : a.open.start + (a.open.next - a.open.start) ≡ a.open.next = omega (arith, st.up) in
      let c : encs rec_c w.q.recs ≡ front ++ (mid ++ rear) =
      ap (encs rec_c) (sym st.list ∙ parts.list) ∙ encs_append parts.before (parts.old ++ parts.behind) ∙ ap (λ (k : Bytes). front ++ k) (encs_append parts.old parts.behind) in
      sym (take-append-drop (a.open.next - a.open.start) (drop a.open.start s))
      ∙ join_same ((recs_here w.read).0 ∙ c) (drop-drop (a.open.next - a.open.start) a.open.start s ∙ ap (λ k. drop k s) n)
      ∙ join_four front mid rear (drop a.open.next s)

  at_here : drop x.at s ≡ mid ++ (rear ++ drop a.open.next s)
  at_here = drop_past s front (mid ++ (rear ++ drop a.open.next s)) a.open.start parts.here all_here

  next_here : drop x.next s ≡ rear ++ drop a.open.next s
  next_here = drop_past s mid (rear ++ drop a.open.next s) x.at parts.next at_here

  -- where the parts begin and end, and how long the records are then
  pub among_fits : (a.open.start ≤ x.at) × (x.at ≤ x.next) × (x.next ≤ a.open.next) × (a.open.next ≤ length s)
      × (x.at - a.open.start + (length (rec_c.enc r) + (a.open.next - x.next)) ≡ length (encs rec_c (put r (recs_in s a))))
  unfolding encs
  among_fits =
      let st = w.read.store in
      let k = ap length all_here in
      let k1 = length-append front (mid ++ (rear ++ drop a.open.next s)) in
      let k2 = length-append mid (rear ++ drop a.open.next s) in
      let k3 = length-append rear (drop a.open.next s) in
      let d0 = length-drop a.open.start s in
      let d1 = length-drop a.open.next s in
      let m = ap (λ l. length (encs rec_c l)) parts.placed ∙ ap length (encs_append parts.before (r ∷ parts.behind)) in
      let m1 = length-append front (rec_c.enc r ++ rear) in
      let m2 = length-append (rec_c.enc r) rear in
      let e0 = parts.here in let e1 = parts.next in
      let u = st.up in let v = st.ends in
      (omega arith, omega arith, omega arith, omega arith, omega arith)

  pub among_put : {d d₁ d₂ d₃ : Bytes} {to b c o n : ℕ} → Put d to (take (x.at - a.open.start) (drop a.open.start s)) (x.at - a.open.start) b d₁ → Put d₁ b (rec_c.enc r) n c d₂
      → Put d₂ c (take (a.open.next - x.next) (drop x.next s)) (a.open.next - x.next) o d₃ → Put d to (encs rec_c (put r (recs_in s a))) (length (encs rec_c (put r (recs_in s a)))) o d₃
  unfolding encs
  among_put {n = n} p1 p2 p3 =
      let f = among_fits in
      let b1 = between s front a.open.start x.at (all_here ∙ ap (λ (k : Bytes). front ++ k) (sym at_here)) f.0 (let g = f.1 in let h = f.2 in let i = f.3 in omega arith) in
      let b3 = between s rear x.next a.open.next next_here f.2 f.3 in
      let e : front ++ (rec_c.enc r ++ rear) ≡ encs rec_c (put r (recs_in s a)) = sym (ap (encs rec_c) parts.placed ∙ encs_append parts.before (r ∷ parts.behind)) in
      recast (then (then p1 p2) p3) (three (rec_c.enc r) b1.0 b3.0 ∙ append_assoc front (rec_c.enc r) rear ∙ e) (let g = f.4 in let h = p2.size in omega arith) refl
    where
      three : {b b' d d' : Bytes} (c : Bytes) → b ≡ b' → d ≡ d' → (b ++ c) ++ d ≡ (b' ++ c) ++ d'
      three c e f = cc

  -- how many records there are then
  pub among_many : {m : ℕ} → m ≡ cond x.found 1 0 → a.open.head.count + 1 - m ≡ length (put r (recs_in s a))
  among_many {m} e =
      let c = ap length w.read.store.list ∙ w.read.store.count in
      let l = ap length parts.list ∙ length-append parts.before (parts.old ++ parts.behind) in
      let l1 = length-append parts.old parts.behind in
      let k = ap length parts.placed ∙ length-append parts.before (r ∷ parts.behind) in
      let o = parts.many in omega arith

-- ---- the record of the id
module _ {s : Bytes} {a : Area} (w : AreaIn s a) {z : Id} {x : SpotNumbers} (p : SpotIn s a z x) where
  pub spot_none : x.found ≡ false → find (named? z) w.q.recs ≡ none
  spot_none n =
      let l = w.read.store.list in
      ap (find (named? z)) (sym l) ∙ absent z (recs_in s a) a.open.start (rw l (fit w.read).sound.rising) (ap (λ p. p.found) (sym p.is) ∙ n)

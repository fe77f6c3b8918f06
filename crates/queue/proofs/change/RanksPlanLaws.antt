-- The ranks of the released, and the rows of a reconciliation. Assumes nothing.
use Rattle.std.specs.Prelude.{◌≡◌, refl, Bool, true, false, cond, not, ◌||◌, List, [], ◌∷◌, ◌++◌, ℕ, zero, suc, ◌+◌, ◌-◌, ◌%◌, ◌≤◌, ◌<◌, leb, eqb, length, take, drop, get_or}
use Rattle.std.proofs.Common.{ap, sym, ◌∙◌, arith, add-one, drop_of_length-le, drop-cons, eq-eqb, ne_eqb}
use Rattle.std.proofs.lemmas.Bool.{eqb-false}
use Rattle.queue.specs.check.AreaAs.{AreaIn}
use Rattle.queue.specs.bytes.ListLaws.{map_length}
use Rattle.queue.specs.Codec.{All, cases}
use Rattle.queue.specs.layout.FrameCodec.{rec_c}
use Rattle.queue.specs.bytes.Parts.{part}
use Rattle.queue.specs.bytes.ViewAs.{view}
use Rattle.queue.specs.bytes.ReaderAs.{list_at}
use Rattle.queue.specs.bytes.ReaderLaws.{none_left}
use Rattle.queue.specs.layout.FormsCodec.{form_c}
use Rattle.queue.specs.layout.FrameAs.{facts_of}
use Rattle.queue.specs.read.SelectAs.{id_at}
use Rattle.queue.specs.change.TouchAs.{as_touched, verdict_of_value, InEntry}
use Rattle.queue.specs.change.ReleaseAs.{next_v, next_l}
use Rattle.queue.specs.theorems.ReconcileKeeps.{place_le}
use Rattle.queue.specs.change.PlanAs.{Packs, RowAdded, number_n, made, RowFit, Planned, stay_f, stay_r}
use Rattle.queue.specs.change.RanksAs.{numbered, kept_of, kept_l, kept_in}
use Rattle.queue.specs.paper.Records.{Bytes, Id, Rec}
use Rattle.queue.specs.paper.Lists.{is_some, filter, map, maybe}
use Rattle.queue.specs.paper.Ids.{cmp_l, same?}
use Rattle.queue.specs.paper.Changing.{confirm, finished, one_past, place_in, release_one}
use Rattle.queue.specs.declared.check.area.Area.{Area}
use Rattle.queue.specs.declared.layout.frame.Seen.{Seen}
use Rattle.queue.specs.declared.layout.frame.Facts.{Facts}
use Rattle.queue.specs.change.PlanAs.{RowNumbers}
use Rattle.queue.specs.change.TouchAs.{VerdictNumbers}
use Rattle.queue.proofs.layout.TurnLaws.{FoundRec}
use Rattle.queue.proofs.change.ReleaseLaws.{all_at}
use Rattle.queue.proofs.change.PlanLaws.{row, become_judged, visit_turn, PlanLoop, plan_loop, plan_next, plan_close}

-- ---- the rank of an id
unfoldable pub shift : ℕ → ℕ → ℕ
shift j zero = 0
shift j (suc k) = j + suc k

shift_zero : (k : ℕ) → k ≡ shift 0 k
unfolding shift
shift_zero zero = refl
shift_zero (suc k) = omega arith

shift_past : (j k : ℕ) → shift j (one_past k) ≡ shift (j + 1) k
unfolding shift
shift_past j zero = refl
shift_past j (suc k) = omega arith

pub record Ranking (s : Bytes) (gone : List ℕ) (id : Id) (j : ℕ) : Type 0 where
  pub within : j ≤ length gone
  pub same : place_in id (map (id_at s) gone) ≡ shift j (place_in id (map (id_at s) (drop j gone)))

pub rank_start : (s : Bytes) (gone : List ℕ) (id : Id) → Ranking s gone id 0
rank_start s gone id = record { within = omega arith; same = shift_zero (place_in id (map (id_at s) gone)) }

pub rank_room : (s : Bytes) (gone : List ℕ) (j : ℕ) → All (λ p. p + 33 ≤ length s) gone → j < length gone → get_or gone j 0 + 33 ≤ length s
rank_room s gone j h k = all_at (λ p. p + 33 ≤ length s) gone j h k

module _ {s : Bytes} {gone : List ℕ} {id : Id} {j : ℕ} (x : Ranking s gone id j) (h : j < length gone) {y : Id} (e : y ≡ part 32 (view false s 0) (get_or gone j 0 + 1)) where
  key_is : same? id (id_at s (get_or gone j 0)) ≡ eqb (cmp_l id y) 1
  unfolding part view
  key_is = ap (λ v. eqb (cmp_l id v) 1) (sym e)

  turn_is : place_in id (map (id_at s) (drop j gone)) ≡ cond (eqb (cmp_l id y) 1) 1 (one_past (place_in id (map (id_at s) (drop (j + 1) gone))))
  turn_is =
      ap (λ l. place_in id (map (id_at s) l)) (drop-cons gone j 0 h)
      ∙ ap (λ b. cond b 1 (one_past (place_in id (map (id_at s) (drop (suc j) gone))))) key_is
      ∙ ap (λ k. cond (eqb (cmp_l id y) 1) 1 (one_past (place_in id (map (id_at s) (drop k gone))))) (sym (add-one j))

  pub rank_go : (cmp_l id y ≡ 1 → ⊥) → Ranking s gone id (j + 1)
  rank_go n = record {
    within = omega arith;
    same = x.same ∙ ap (shift j) (turn_is ∙ ap (λ b. cond b 1 (one_past (place_in id (map (id_at s) (drop (j + 1) gone))))) (ne_eqb (cmp_l id y) 1 n)) ∙ shift_past j (place_in id (map (id_at s) (drop (j + 1) gone)));
  }

  pub rank_stop : cmp_l id y ≡ 1 → j + 1 ≡ place_in id (map (id_at s) gone)
  unfolding shift
  rank_stop n = sym (x.same ∙ ap (shift j) (turn_is ∙ ap (λ b. cond b 1 (one_past (place_in id (map (id_at s) (drop (j + 1) gone))))) (eq-eqb (cmp_l id y) 1 n)))

pub rank_end : {s : Bytes} {gone : List ℕ} {id : Id} {j : ℕ} → Ranking s gone id j → length gone ≤ j → 0 ≡ place_in id (map (id_at s) gone)
unfolding shift
rank_end {s} {gone} {id} {j} x h = sym (x.same ∙ ap (λ l. shift j (place_in id (map (id_at s) l))) (drop_of_length-le gone h))

pub rank_few : (s : Bytes) (gone : List ℕ) (id : Id) {r : ℕ} → r ≡ place_in id (map (id_at s) gone) → r ≤ length gone
rank_few s gone id e = let a = place_le id (map (id_at s) gone) in let b = map_length (id_at s) gone in omega arith

-- ---- a released record has its number
number_is : (c : ℕ) (ids : List Id) (y : Rec) → release_one c ids y ≡ numbered (number_n c (place_in y.id ids)) y
unfolding number_n numbered
number_is c ids y = cases (eqb (place_in y.id ids) 0)
    (λ a. rw a)
    (λ a. let z = eqb-false (place_in y.id ids) 0 a in let k : eqb (c + place_in y.id ids) 0 ≡ false = ne_eqb (c + place_in y.id ids) 0 (λ e. z (let u : place_in y.id ids ≡ 0 = omega arith in u)) in rw (a, k))

-- ---- what a verdict leaves of a record
module _ (t : Bytes) (v : VerdictNumbers) (r : Rec) where
  abbrev after : Rec
  after = maybe r (λ y. y) (as_touched t v r)

  to_id : after.id ≡ r.id
  unfolding as_touched confirm
  to_id = cases (eqb v.what 0) (λ a. rw a) (λ a. cases (eqb v.what 1) (λ b. rw (a, b)) (λ b. cases (eqb v.what 2) (λ c. rw (a, b, c)) (λ c. rw (a, b, c))))

  to_finish : after.finish ≡ r.finish
  unfolding as_touched confirm
  to_finish = cases (eqb v.what 0) (λ a. rw a) (λ a. cases (eqb v.what 1) (λ b. rw (a, b)) (λ b. cases (eqb v.what 2) (λ c. rw (a, b, c)) (λ c. rw (a, b, c))))

  to_body : after.body ≡ r.body
  unfolding as_touched confirm
  to_body = cases (eqb v.what 0) (λ a. rw a) (λ a. cases (eqb v.what 1) (λ b. rw (a, b)) (λ b. cases (eqb v.what 2) (λ c. rw (a, b, c)) (λ c. rw (a, b, c))))

  stay_is : (n floor : ℕ) → stay_r floor (numbered n after) ≡ stay_f n floor (facts_of r)
  unfolding numbered finished stay_f facts_of
  stay_is n floor = cases (eqb n 0) (λ a. rw a (two (ap is_some to_body) to_finish)) (λ a. rw a)
    where
      two : {a a' : Bool} {b b' : ℕ} → a ≡ a' → b ≡ b' → (a || leb floor b) ≡ (a' || leb floor b')
      two e f = cc

-- ---- the rows
module _ (t : Bytes) (vs : List ℕ) (c floor i j rank : ℕ) (r : Rec) where
  abbrev pub judged_row : Facts → RowNumbers
  judged_row f = row i j rank (cond (stay_f (number_n c rank) floor f) (get_or vs j 0 % 4) 7)

  judged_made : made t vs c (judged_row (facts_of r)) r ≡ cond (stay_f (number_n c rank) floor (facts_of r)) (numbered (number_n c rank) (maybe r (λ y. y) (as_touched t (verdict_of_value (get_or vs j 0)) r)) ∷ []) []
  unfolding made verdict_of_value
  judged_made = cases (stay_f (number_n c rank) floor (facts_of r))
      (λ e.
      let n : eqb (get_or vs j 0 % 4) 7 ≡ false = ne_eqb (get_or vs j 0 % 4) 7 (λ z. let y : ⊥ = omega arith in y) in
      rw (e, n) (ap (λ (k : Rec). k ∷ []) (become_judged t (verdict_of_value (get_or vs j 0)) (number_n c rank) r (let y : get_or vs j 0 % 4 < 4 = omega arith in y))))
      (λ e. rw e)

  judged_cut : (ids : List Id) (l : List Rec) → rank ≡ place_in r.id ids → j < length vs
      → kept_of c floor ids (next_v t (r ∷ l) (drop j vs)) ≡ made t vs c (judged_row (facts_of r)) r ++ kept_of c floor ids (next_v t l (drop (j + 1) vs))
  unfolding kept_of next_v
  judged_cut ids l e h =
      let ver = verdict_of_value (get_or vs j 0) in
      let Y = maybe r (λ y. y) (as_touched t ver r) in
      let K = filter (stay_r floor) (map (release_one c ids) (next_v t l (drop (j + 1) vs))) in
      let d : drop j vs ≡ get_or vs j 0 ∷ drop (j + 1) vs = rw add-one (drop-cons vs j 0 h) in
      let u : release_one c ids Y ≡ numbered (number_n c rank) Y = number_is c ids Y ∙ ap (λ z. numbered (number_n c z) Y) (ap (λ z. place_in z ids) (to_id t ver r) ∙ sym e) in
      let k : stay_r floor (release_one c ids Y) ≡ stay_f (number_n c rank) floor (facts_of r) = ap (stay_r floor) u ∙ stay_is t ver r (number_n c rank) floor in
      ap (λ z. filter (stay_r floor) (map (release_one c ids) (next_v t (r ∷ l) z))) d
      ∙ ap (λ b. cond b (release_one c ids Y ∷ K) K) k
      ∙ ap (λ z. cond (stay_f (number_n c rank) floor (facts_of r)) (z ∷ K) K) u
      ∙ one_more (stay_f (number_n c rank) floor (facts_of r)) (numbered (number_n c rank) Y) K
      ∙ ap (λ z. z ++ K) (sym judged_made)
    where
      one_more : (b : Bool) (y : Rec) (z : List Rec) → cond b (y ∷ z) z ≡ cond b (y ∷ []) [] ++ z
      one_more true y z = refl
      one_more false y z = refl

pub record JudgePlan (s : Bytes) (at n c : ℕ) (t : Bytes) (vs gone : List ℕ) (floor : ℕ) (d : List ℕ) (i left j k many : ℕ) : Type 0 where
  pub loop : PlanLoop s at n c t vs (kept_l s at n t vs gone c floor) d i left k many (kept_of c floor (map (id_at s) gone) (next_v t (list_at (form_c false rec_c) left s i) (drop j vs)))
  pub index : j + left ≡ n

pub judge_plan : {s : Bytes} {a : Area} (c : ℕ) (t : Bytes) (vs gone : List ℕ) (floor : ℕ) (d : List ℕ) → AreaIn s a → length d ≡ 3072 → JudgePlan s a.open.start a.open.head.count c t vs gone floor d a.open.start a.open.head.count 0 0 0
unfolding kept_l next_l
judge_plan {s} {a} c t vs gone floor d w l = record { loop = plan_loop c t vs (kept_l s a.open.start a.open.head.count t vs gone c floor) d w l; index = omega arith }

module _ {s : Bytes} {at n c : ℕ} {t : Bytes} {vs gone : List ℕ} {floor : ℕ} {d : List ℕ} {i left j k many : ℕ} (g : JudgePlan s at n c t vs gone floor d i left j k many) (N : length vs ≡ n) where
  module _ {x : Seen} (p : 0 < left) (r : FoundRec false s i x.size x) {rank what : ℕ} (er : rank ≡ place_in x.id (map (id_at s) gone)) (ew : what ≡ cond (stay_f (number_n c rank) floor x.facts) (get_or vs j 0 % 4) 7) where
    what_is : what ≡ cond (stay_f (number_n c rank) floor (facts_of (visit_turn g.loop.visit p r).item)) (get_or vs j 0 % 4) 7
    what_is = ew ∙ ap (λ f. cond (stay_f (number_n c rank) floor f) (get_or vs j 0 % 4) 7) (visit_turn g.loop.visit p r).is.0.facts

    what_few : what < 8
    what_few = cases (stay_f (number_n c rank) floor x.facts)
        (λ b. let y : what ≡ get_or vs j 0 % 4 = ew ∙ rw b in omega arith)
        (λ b. let y : what ≡ 7 = ew ∙ rw b in omega arith)

    what_one : what ≡ 1 → get_or vs j 0 % 4 ≡ 1
    what_one e = cases (stay_f (number_n c rank) floor x.facts)
        (λ b. let y : what ≡ get_or vs j 0 % 4 = ew ∙ rw b in omega arith)
        (λ b. let y : what ≡ 7 = ew ∙ rw b in absurd (let z : ⊥ = omega arith in z))

    pub judged_packs : i < 4294967296 → n ≤ 3072 → length gone ≤ 2048 → Packs (row i j rank what)
    judged_packs w f h = let y = rank_few s gone x.id er in record { place = w; index = omega (arith, g.index); rank = omega arith; what = what_few }

    judged_fit : All (InEntry t) vs → c + length gone < 18446744073709551616 → RowFit t vs c (row i j rank what)
    judged_fit E h =
        let y = rank_few s gone x.id er in
        record {
          entry = λ o. let z = what_one o in (omega (arith, g.index, N), z, all_at (InEntry t) vs j E (omega (arith, g.index, N)) z);
          number = omega arith;
        }

    pub judged_go : {d' : List ℕ} {k' m : ℕ} → RowAdded (row i j rank what) k d k' d' → All (InEntry t) vs → c + length gone < 18446744073709551616 → m ≡ cond (not (eqb what 7)) 1 0
        → JudgePlan s at n c t vs gone floor d' (i + x.size) (left - 1) (j + 1) k' (many + m)
    judged_go A E h e =
        let T = visit_turn g.loop.visit p r in
        let ids = map (id_at s) gone in
        let u : rank ≡ place_in T.item.id ids = er ∙ ap (λ z. place_in z ids) T.is.0.id in
        record {
          loop = plan_next g.loop p r A refl (judged_fit E h)
              (ap (λ l. kept_of c floor ids (next_v t l (drop j vs))) T.list
              ∙ judged_cut t vs c floor i j rank T.item ids (list_at (form_c false rec_c) (left - 1) s (i + x.size)) u (omega (arith, g.index, N))
              ∙ ap (λ z. made t vs c (row i j rank z) T.item ++ kept_of c floor ids (next_v t (list_at (form_c false rec_c) (left - 1) s (i + x.size)) (drop (j + 1) vs))) (sym what_is)) e;
          index = omega (arith, g.index);
        }

pub judged_end : {s : Bytes} {a : Area} {c : ℕ} {t : Bytes} {vs gone : List ℕ} {floor : ℕ} {d : List ℕ} {i left j k many : ℕ} → JudgePlan s a.open.start a.open.head.count c t vs gone floor d i left j k many → AreaIn s a → c ≡ a.open.head.counter.0 → left ≡ 0
    → Planned s a t vs (take k d) (kept_in s a t vs gone floor) many × (k ≤ 3072)
unfolding kept_of next_v
judged_end {s} {a} {c} {t} {vs} {gone} {floor} {d} {i} {left} {j} {k} {many} g w e z =
    let h = plan_close g.loop w e z (ap (λ l. kept_of c floor (map (id_at s) gone) (next_v t l (drop j vs))) (none_left (form_c false rec_c) s left i z).0) in
    (rw e at h.0, h.1)

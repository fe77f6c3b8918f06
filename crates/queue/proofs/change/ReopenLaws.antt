-- Reopening: lent ids, the listed, their rows, and the call exit by exit. Assumes nothing.
use Rattle.std.specs.Prelude as code
use Rattle.std.specs.Prelude.{◌≡◌, refl, Bool, true, false, cond, not, ◌&&◌, List, [], ◌∷◌, ◌++◌, ℕ, zero, suc, ◌+◌, ◌-◌, ◌*◌, ◌/◌, ◌%◌, ◌^◌, ◌≤◌, ◌<◌, ltb, eqb, length, drop, take}
use Rattle.std.proofs.Common.{ap, sym, ◌∙◌, append-nil, arith, add-zero, mod-lt, div-add-mod', length-drop, take-append-drop, lt-ltb, le-ltb, eq-eqb, ne_eqb}
use Rattle.std.proofs.Math.Option.{none, some}
use Rattle.queue.proofs.check.AreaLaws.{fit}
use Rattle.queue.specs.Codec.{got, cases, encs, decs, vec_fwd}
use Rattle.queue.specs.layout.FrameCodec.{id_c, rec_c}
use Rattle.queue.specs.bytes.ViewAs.{view}
use Rattle.queue.specs.bytes.ReaderAs.{Found, whole, list_at, is_got, val_of}
use Rattle.queue.specs.bytes.ReaderLaws as readlaws
use Rattle.queue.specs.bytes.ReaderLaws.{turn, none_left}
use Rattle.queue.specs.layout.FormsCodec.{form_c, queue_c}
use Rattle.queue.specs.Areas.{read_area}
use Rattle.queue.specs.theorems.Bound.{fits_need}
use Rattle.queue.specs.theorems.SoundParts.{Fit, fit_sound, fit_ok}
use Rattle.queue.specs.theorems.CallsKeeps.{leaves_kept, reopen_leaves}
use Rattle.queue.specs.theorems.Plain.{ids_plain}
use Rattle.queue.specs.layout.FrameAs.{facts_of, SeenAs}
use Rattle.queue.specs.check.AreaAs.{AreaIn}
use Rattle.queue.specs.theorems.Arguments.{Small, items_ok, ids_ok}
use Rattle.queue.specs.change.WriteAs.{TipIs, marks_after}
use Rattle.queue.specs.read.FindAs.{recs_in}
use Rattle.queue.specs.change.PlanAs.{Packs, RowAdded, made, planned_q, PlanFor, Planned}
use Rattle.queue.specs.change.ReopenAs.{IdsIn, ids_at, listed_s, again, again_q, AgainFrom, AgainTo, ReopenTold}
use Rattle.queue.specs.paper.Records.{Bytes, Id, Rec, Queue}
use Rattle.queue.specs.paper.Lists.{any?, map, concat}
use Rattle.queue.specs.paper.Ids.{cmp_l, rise?}
use Rattle.queue.specs.paper.Sound.{need, among?}
use Rattle.queue.specs.paper.Area.{area_bytes, over}
use Rattle.queue.specs.paper.Changing.{done, committed, listed?, reopen}
use Rattle.queue.specs.Checked.{Outcome, outcome, told, reopen_of}
use Rattle.queue.specs.paper.Calls.{nothing_bytes, pieces, items}
use Rattle.queue.specs.declared.Kind.TheVariants.{Nothing, Whole}
use Rattle.queue.specs.paper.Answer.{Refused, Done}
use Rattle.queue.specs.declared.layout.frame.Seen.{Seen}
use Rattle.queue.specs.declared.layout.frame.Facts.{Facts}
use Rattle.queue.specs.declared.check.area.Area.{Area}
use Rattle.queue.proofs.layout.TurnLaws.{id_room, Scan, start, here, on, stop, end, FoundRec, seen, see}
use Rattle.queue.proofs.change.FinishLaws.{raw_after}
use Rattle.queue.proofs.change.WriteLaws.{one_queue, same_queue, the_limits, tip_of_law}
use Rattle.queue.proofs.change.CallsLaws.{small_all}
use Rattle.queue.proofs.change.PlanLaws.{row, made_same, made_again, visit_turn, PlanLoop, plan_loop, plan_next, plan_close}

-- ---- lent ids
pub pieces_join : (k : ℕ) (s : Bytes) → length s ≡ k * 32 → concat (pieces 32 k s) ≡ s
pieces_join zero s h = none s h
  where
    none : (s : Bytes) → length s ≡ 0 → [] ≡ s
    none [] h = refl
    none (b ∷ s) h = absurd (let y : ⊥ = omega arith in y)
pieces_join (suc k) s h =
    let l = length-drop 32 s in
    ap (λ (y : Bytes). take 32 s ++ y) (pieces_join k (drop 32 s) (omega arith)) ∙ take-append-drop 32 s

module _ (s : Bytes) (k : ℕ) (h : Small s) (e : k ≡ length s / 32) (z : length s % 32 ≡ 0) where
  ids_got : decs id_c k s ≡ got (items 32 s) []
  unfolding items
  ids_got =
      let d = div-add-mod' (length s) 32 in
      let j : encs id_c (items 32 s) ++ [] ≡ s = append-nil (encs id_c (items 32 s)) ∙ ids_plain (items 32 s) ∙ pieces_join (length s / 32) s (omega arith) in
      let n : length (items 32 s) ≡ k = (items_ok 32 s h).1 ∙ sym e in
      ap (λ m. decs id_c m s) (sym n) ∙ ap (decs id_c (length (items 32 s))) (sym j) ∙ vec_fwd id_c (items 32 s) [] (ids_ok s h)

  pub ids_in_law : IdsIn s k
  unfolding whole view
  ids_in_law = ap is_got ids_got

  pub ids_are : ids_at s k ≡ items 32 s
  unfolding list_at view
  ids_are = ap val_of ids_got

pub lent_mod : (s : Bytes) {n : ℕ} → n ≡ length (view false s 0) → length s % 32 ≡ 0 → n % 32 ≡ 0
unfolding view
lent_mod s l z = ap (λ (m : ℕ). m % 32) l ∙ z

-- as they were measured: n bytes, in 32s
module _ (s : Bytes) {n : ℕ} (l : n ≡ length (view false s 0)) (h : readlaws.SmallAt (view false s 0)) (z : n % 32 ≡ 0) where
  pub lent_whole : length s % 32 ≡ 0
  unfolding view
  lent_whole = ap (λ (m : ℕ). m % 32) (sym l) ∙ z

  lent_many : n / 32 ≡ length s / 32
  unfolding view
  lent_many = ap (λ (m : ℕ). m / 32) l

  lent_small : Small s
  unfolding view
  lent_small = small_all s h

  pub lent_in : IdsIn s (n / 32)
  lent_in = ids_in_law s (n / 32) lent_small lent_many lent_whole

  pub lent_are : ids_at s (n / 32) ≡ items 32 s
  lent_are = ids_are s (n / 32) lent_small lent_many lent_whole

-- ---- rising ids
unfoldable pub chain_i? : Id → List Id → Bool
chain_i? p [] = true
chain_i? p (i ∷ l) = eqb (cmp_l p i) 0 && chain_i? i l

rise_chain : (i : Id) (l : List Id) → rise? (i ∷ l) ≡ chain_i? i l
unfolding rise? chain_i?
rise_chain i [] = refl
rise_chain i (x ∷ l) = rw (rise_chain x l)

pub ids_none : (v : Bytes) (n : ℕ) → n ≡ 0 → true ≡ rise? (list_at id_c n v 0)
unfolding rise?
ids_none v n z = rw (none_left id_c v n 0 z).0

-- an id stands at the start
pub ids_room : (t : Bytes) (n : ℕ) → whole id_c n (view false t 0) 0 ≡ true → 0 < n → 0 + 32 ≤ length (view false t 0)
ids_room t n w p = id_room (start id_c (λ (u : Unit {0}) (l : List Id). u) (view false t 0) n 0 tt (omega arith) w) p

pub ids_first : {v : Bytes} (n : ℕ) {m : ℕ} {y : Id} → whole id_c n v 0 ≡ true → 0 < n → Found id_c v 0 m (λ w. w ≡ y)
    → Scan id_c chain_i? v (n - 1) m y m (n - 1) y × (chain_i? y (list_at id_c (n - 1) v m) ≡ rise? (list_at id_c n v 0))
ids_first {v} n {m} {y} w p r =
    let t = turn n w p r in (
      start id_c chain_i? v (n - 1) m y t.within t.rest,
      ap (λ i. chain_i? i (list_at id_c (n - 1) v m)) (sym t.is) ∙ sym (rise_chain t.item (list_at id_c (n - 1) v m)) ∙ ap rise? (sym t.list),
    )

module _ {v : Bytes} {n at i left : ℕ} {p₀ p : Id} (x : Scan id_c chain_i? v n at p₀ i left p) where
  pub ids_go : {m : ℕ} {y : Id} → 0 < left → Found id_c v i m (λ w. w ≡ y) → cmp_l p y ≡ 0 → Scan id_c chain_i? v n at p₀ m (left - 1) y
  unfolding chain_i?
  ids_go {y = y} h r e = let t = here x h r in on x y h t (rw (t.is, eq-eqb _ _ e))

  pub ids_stop : {m : ℕ} {y : Id} → 0 < left → Found id_c v i m (λ w. w ≡ y) → (cmp_l p y ≡ 0 → ⊥) → false ≡ chain_i? p₀ (list_at id_c n v at)
  unfolding chain_i?
  ids_stop h r e = let t = here x h r in stop x t (rw (t.is, ne_eqb _ _ e))

  pub ids_end : left ≡ 0 → true ≡ chain_i? p₀ (list_at id_c n v at)
  unfolding chain_i?
  ids_end z = end x z

-- ---- the listed
pub listed_is : (ids : List Id) {v : Bytes} {x : Seen} {r : Rec} → SeenAs v x r → listed_s ids x ≡ listed? ids r
unfolding listed_s facts_of
listed_is ids {v} {x} {r} w = ap (λ (i : Id). eqb x.facts.state 2 && among? i ids) w.id ∙ ap (λ (f : Facts). eqb f.state 2 && among? r.id ids) w.facts

unfoldable pub any_f : List Id → Unit {0} → List Rec → Bool
any_f ids u l = any? (listed? ids) l

module _ (ids : List Id) {s : Bytes} {n at i left : ℕ} (x : Scan (form_c false rec_c) (any_f ids) s n at tt i left tt) where
  pub any_next : {m : ℕ} {y : Seen} → 0 < left → FoundRec false s i m y → i + m ≤ length s
  any_next {m} p r = rw (raw_after s i m) (seen false x p r).within

  module _ {m : ℕ} {b : Bool} {y : Seen} (p : 0 < left) (r : FoundRec false s i m y) (e : b ≡ listed_s ids y) where
    pub any_go : b ≡ false → Scan (form_c false rec_c) (any_f ids) s n at tt (i + m) (left - 1) tt
    unfolding any_f
    any_go f = let t = see false x p r (raw_after s i m) in let g : listed? ids t.item ≡ false = sym (listed_is ids t.is.0) ∙ sym e ∙ f in on x tt p t (rw g)

    pub any_stop : b ≡ true → true ≡ any? (listed? ids) (list_at (form_c false rec_c) n s at)
    unfolding any_f
    any_stop f = let t = seen false x p r in let g : listed? ids t.item ≡ true = sym (listed_is ids t.is.0) ∙ sym e ∙ f in stop x t (rw g)

  pub any_end : left ≡ 0 → false ≡ any? (listed? ids) (list_at (form_c false rec_c) n s at)
  unfolding any_f
  any_end z = end x z

-- ---- the rows
again_made : (ids : List Id) (n i : ℕ) (r : Rec) {hit : Bool} → hit ≡ listed? ids r → again ids r ∷ [] ≡ made [] [] n (row i 0 0 (cond hit 4 0)) r
unfolding again
again_made ids n i r {hit} e = cases hit
    (λ t. rw (t, sym e ∙ t) (sym (made_again [] [] n i 0 r)))
    (λ t. rw (t, sym e ∙ t) (sym (made_same [] [] n i 0 r)))

pub record ListPlan (s : Bytes) (at n num : ℕ) (ids : List Id) (d : List ℕ) (i left k : ℕ) : Type 0 where
  pub loop : PlanLoop s at n num [] [] (map (again ids) (list_at (form_c false rec_c) n s at)) d i left k (n - left) (map (again ids) (list_at (form_c false rec_c) left s i))

pub list_plan : {s : Bytes} {a : Area} (num : ℕ) (ids : List Id) (d : List ℕ) → AreaIn s a → length d ≡ 3072 → ListPlan s a.open.start a.open.head.count num ids d a.open.start a.open.head.count 0
list_plan {s} {a} num ids d w l = record { loop = rw (let y : a.open.head.count - a.open.head.count ≡ 0 = omega arith in y) (plan_loop num [] [] (map (again ids) (recs_in s a)) d w l) }

module _ {s : Bytes} {at n num : ℕ} {ids : List Id} {d : List ℕ} {i left k : ℕ} (g : ListPlan s at n num ids d i left k) where
  module _ {hit : Bool} {x : Seen} (p : 0 < left) (r : FoundRec false s i x.size x) (e : hit ≡ listed_s ids x) {what : ℕ} (ew : what ≡ cond hit 4 0) where
    what_few : what < 7
    what_few = cases hit (λ b. let y : what ≡ 4 = ew ∙ rw b in omega arith) (λ b. let y : what ≡ 0 = ew ∙ rw b in omega arith)

    what_not : what ≡ 1 → ⊥
    what_not o = cases hit (λ b. let y : what ≡ 4 = ew ∙ rw b in let z : ⊥ = omega arith in z) (λ b. let y : what ≡ 0 = ew ∙ rw b in let z : ⊥ = omega arith in z)

    pub listed_packs : i < 4294967296 → Packs (row i 0 0 what)
    listed_packs w = record { place = w; index = omega arith; rank = omega arith; what = let y = what_few in omega arith }

    pub listed_go : {d' : List ℕ} {k' : ℕ} → num < 18446744073709551616 → RowAdded (row i 0 0 what) k d k' d' → ListPlan s at n num ids d' (i + x.size) (left - 1) k'
    listed_go w A =
        let T = visit_turn g.loop.visit p r in
        let h : hit ≡ listed? ids T.item = e ∙ listed_is ids T.is.0 in
        let f : not (eqb what 7) ≡ true = let y = what_few in ap not (ne_eqb what 7 (λ z. let u : ⊥ = omega arith in u)) in
        let m : n - left + 1 ≡ n - (left - 1) = omega (arith, g.loop.visit.few) in
        record {
          loop = counted m (plan_next g.loop p r A refl (record { entry = λ o. absurd (what_not o); number = omega arith })
              (ap (map (again ids)) T.list
              ∙ ap (λ (z : List Rec). z ++ map (again ids) (list_at (form_c false rec_c) (left - 1) s (i + x.size))) (again_made ids num i T.item h ∙ ap (λ z. made [] [] num (row i 0 0 z) T.item) (sym ew)))
              (sym (ap (λ b. cond b 1 0) f)));
        }
      where
        counted : {d' : List ℕ} {j l k' m m' : ℕ} {all rest : List Rec} → m ≡ m' → PlanLoop s at n num [] [] all d' j l k' m rest → PlanLoop s at n num [] [] all d' j l k' m' rest
        counted e g = rw (← e) g

pub listed_end : {s : Bytes} {a : Area} {num : ℕ} {ids : List Id} {d : List ℕ} {i left k : ℕ} → ListPlan s a.open.start a.open.head.count num ids d i left k → AreaIn s a → num ≡ a.open.head.counter.0 → left ≡ 0
    → Planned s a [] [] (take k d) (map (again ids) (recs_in s a)) a.open.head.count × (k ≤ 3072)
listed_end {s} {a} {num} {ids} {d} {i} {left} {k} g w e z =
    let h = plan_close g.loop w e z (ap (map (again ids)) (none_left (form_c false rec_c) s left i z).0) in
    (rw (let y : a.open.head.count - left ≡ a.open.head.count = omega arith in y) at h.0, h.1)

-- ---- the whole area
module _ {s : Bytes} {a : Area} {ids : List Id} (w : AgainFrom s a ids) where
  pub area_again : AreaIn s a
  area_again = record { q = w.q; is = w.is; read = w.read }

  module _ (tip : code.Option Id) {kept : ℕ} {rows : List ℕ} (t : TipIs s a.open.head tip) (P : Planned s a [] [] rows (map (again ids) (recs_in s a)) kept) where
    opened_is : planned_q s a (marks_after a.open.head tip 0 kept) [] [] rows ≡ again_q ids w.q
    unfolding again_q committed
    opened_is =
        let st = w.read.store in
        same_queue (sym st.head.cursor) (sym (the_limits w.read)) (ap (λ v. (v + 1) % 2 ^ 64) (sym st.head.revision)) (sym st.head.cursor) (tip_of_law w.read tip t)
        (add-zero a.open.head.counter.0 ∙ sym st.head.counter) (P.are ∙ ap (map (again ids)) st.list)

    pub opened_plan : PlanFor s a (marks_after a.open.head tip 0 kept) [] [] rows
    opened_plan =
        let h = w.read.store.head in
        record {
          area = area_again;
          bytes = tt;
          fit = P.fit;
          count = P.count ∙ sym (ap length P.are);
          small = record { persisted = h.cursor_small; revision = mod-lt _ (omega arith); cursor = h.cursor_small; counter = omega (arith, h.counter_small); count = omega (arith, P.few, h.count_small) };
          fits = let u = ap (λ v. length (queue_c.enc v)) opened_is in omega (arith, w.fits, w.read.need);
        }

    pub opened_done : (d : Bytes) {d' : Bytes} {q' : Queue} → read_area s ≡ some q' → d' ≡ over (area_bytes (planned_q s a (marks_after a.open.head tip 0 kept) [] [] rows)) d → d' ≡ over (area_bytes (again_q ids q')) d
    opened_done d e h = h ∙ ap (λ v. over (area_bytes v) d) (opened_is ∙ ap (again_q ids) (one_queue s w.is e))

-- ---- the call
pub reopen_3 : (cur next ids : Bytes) → read_area cur ≡ none → outcome (Refused 3) next [] ≡ reopen_of cur next ids
unfolding reopen_of
reopen_3 cur next ids e = rw e

module _ (cur next ids : Bytes) {a : Area} (i : AreaIn cur a) where
  pub reopen_2 : length next < a.need → outcome (Refused 2) next [] ≡ reopen_of cur next ids
  unfolding reopen_of
  reopen_2 h = rw (i.is, lt-ltb (length next) (need i.q.limits) (omega (arith, i.read.need)))

  module _ (h : a.need ≤ length next) where
    enough : ltb (length next) (need i.q.limits) ≡ false
    enough = le-ltb (length next) (need i.q.limits) (omega (arith, i.read.need))

    pub reopen_5 : (length ids % 32 ≡ 0 → ⊥) → outcome (Refused 5) next [] ≡ reopen_of cur next ids
    unfolding reopen_of
    reopen_5 n = rw (i.is, enough, ne_eqb (length ids % 32) 0 n)

    module _ (k : ℕ) (z : length ids % 32 ≡ 0) (f : ids_at ids k ≡ items 32 ids) {b : Bool} (r : b ≡ rise? (ids_at ids k)) where
      rises : b ≡ rise? (items 32 ids)
      rises = r ∙ ap rise? f

      pub reopen_5' : b ≡ false → outcome (Refused 5) next [] ≡ reopen_of cur next ids
      unfolding reopen_of
      reopen_5' n = rw (i.is, enough, eq-eqb (length ids % 32) 0 z, ← rises, n)

      pub reopen_rest : b ≡ true → {o : Outcome} → ReopenTold cur (ids_at ids k) o next → o ≡ reopen_of cur next ids
      unfolding reopen_of
      reopen_rest n c = let y = c i.q i.is ∙ ap (λ l. told nothing_bytes next [] (reopen l i.q)) f in
          rw (i.is, enough, eq-eqb (length ids % 32) 0 z, ← rises, n) y

-- ---- from the ids on
module _ {s : Bytes} {a : Area} (w : AreaIn s a) (ids : List Id) {b : Bool} (e : b ≡ any? (listed? ids) (list_at (form_c false rec_c) a.open.head.count s a.open.start)) where
  some_listed : b ≡ any? (listed? ids) w.q.recs
  some_listed = e ∙ ap (any? (listed? ids)) w.read.store.list

  pub told_100 : (next : Bytes) → b ≡ false → ReopenTold s ids (outcome (Done Nothing) next []) next
  unfolding reopen over
  told_100 next n q f = rw (← (one_queue s w.is f), ← some_listed, n)

  opens : b ≡ true → reopen ids w.q ≡ done Whole (again_q ids w.q) tt
  unfolding reopen again_q again
  opens n = rw (← some_listed, n)

  opened_fit : b ≡ true → Fit (again_q ids w.q)
  opened_fit n = (leaves_kept w.q (again_q ids w.q) (reopen ids w.q) Whole tt (reopen_leaves ids w.q (fit w.read)) (opens n)).fit

  pub again_from : b ≡ true → AgainFrom s a ids
  unfolding again_q committed
  again_from n = record { q = w.q; is = w.is; read = w.read; fits = lim (fits_need (again_q ids w.q) (fit_sound _ (opened_fit n)) (fit_ok _ (opened_fit n))) }
    where
      lim : length (queue_c.enc (again_q ids w.q)) ≤ need (again_q ids w.q).limits → length (queue_c.enc (again_q ids w.q)) ≤ need w.q.limits
      lim x = x

  pub told_102 : (next : Bytes) {next' : Bytes} → b ≡ true → AgainTo s ids next next' → ReopenTold s ids (outcome (Done Whole) next' []) next
  unfolding over
  told_102 next n t q f = rw (← (one_queue s w.is f), opens n, t w.q w.is)

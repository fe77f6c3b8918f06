use Rattle.queue.specs.bytes.ViewAs.{view}
-- An area written from an area and the rows of a plan: the loop over the rows, and the whole area. Assumes nothing.
use Rattle.std.specs.Prelude as code
use Rattle.std.specs.Prelude.{◌≡◌, refl, Bool, true, false, cond, not, ◌||◌, ◌⊎◌, List, [], ◌∷◌, ◌++◌, ℕ, ◌+◌, ◌-◌, ◌%◌, ◌^◌, ◌≤◌, ◌<◌, ltb, leb, eqb, length, take, drop, get_or, replicate}
use Rattle.std.proofs.Common.{ap, sym, ◌∙◌, append-nil, arith, add-zero, mod-lt, add-one, length-append, length-drop, take-append-drop, drop_of_length-le, drop-cons, drop-drop, eq-eqb, ne_eqb}
use Rattle.std.proofs.Math.Option.{some}
use Rattle.queue.proofs.check.AreaLaws.{fit, recs_here}
use Rattle.queue.specs.check.AreaAs.{AreaIn}
use Rattle.queue.specs.check.NumbersAs.{above}
use Rattle.queue.specs.Basics.{join_same, join_four, drop_past}
use Rattle.queue.specs.Codec.{All, cases, encs, got}
use Rattle.queue.specs.bytes.PutAs.{Put}
use Rattle.queue.specs.layout.FrameCodec.{rec_c}
use Rattle.queue.specs.bytes.ReaderAs.{list_at, reads?}
use Rattle.queue.specs.bytes.ReaderLaws.{none_left}
use Rattle.queue.specs.layout.FormsCodec.{form_c, form_raw, queue_c, store_of, area_form, ok_queue, ok_store}
use Rattle.queue.specs.Areas.{read_area}
use Rattle.queue.specs.layout.FrameAs.{facts_of, limits_in, head_t}
use Rattle.queue.specs.layout.HeadAs.{front_len, tip_in, tip_size, TipLong, front_bytes}
use Rattle.queue.specs.theorems.Arguments.{Small}
use Rattle.queue.specs.check.RulesAs.{sum}
use Rattle.queue.specs.read.ReadingAs.{Here}
use Rattle.queue.specs.read.FindAs.{recs_in}
use Rattle.queue.specs.change.FinishAs.{picked, picked_s, end_what, end_state, end_reason}
use Rattle.queue.specs.change.WriteAs.{TipIs, MovedFrom, marks_after, ended, EndedFrom}
use Rattle.queue.specs.change.PlanAs.{row_of, Packs, RowAdded, number_n, verdict_in_value, made, RowFit, edited, RowsAt, row_made, RowFits, planned_in, RowsIn, planned_q, PlanFor, Planned, step_n, stay_f, stay_r, ended_l}
use Rattle.queue.specs.paper.Records.{Bytes, Id, Limits, Rec, Queue}
use Rattle.queue.specs.paper.Lists.{one, count, filter}
use Rattle.queue.specs.paper.Sound.{need, holder?}
use Rattle.queue.specs.paper.Area.{area_bytes, over}
use Rattle.queue.specs.paper.Changing.{moved, committed, finished, finish_those, forget}
use Rattle.queue.specs.declared.check.area.Area.{Area}
use Rattle.queue.specs.declared.check.area.Open.{Open}
use Rattle.queue.specs.declared.change.finish.Change.{Change}
use Rattle.queue.specs.declared.change.finish.Change.TheVariants.{Named, Due}
use Rattle.queue.specs.declared.layout.frame.Height.{Height}
use Rattle.queue.specs.declared.layout.frame.Seen.{Seen}
use Rattle.queue.specs.declared.layout.head.Marks.{Marks}
use Rattle.queue.specs.change.PlanAs.{RowNumbers}
use Rattle.queue.specs.declared.check.rules.Query.TheVariants.{Tombstones}
use Rattle.queue.specs.change.TouchAs.{VerdictNumbers}
use Rattle.queue.proofs.layout.TurnLaws.{SeenIn, FoundRec, encs_append}
use Rattle.queue.proofs.bytes.PutLaws as puts
use Rattle.queue.proofs.bytes.PutLaws.{recast, kept, Left, begun, onward}
use Rattle.queue.proofs.bytes.PutByteLaws.{between}
use Rattle.queue.proofs.layout.HeadLaws.{area_done}
use Rattle.queue.proofs.change.FinishLaws.{picked_is, Picks, forget_floor, floors}
use Rattle.queue.proofs.read.ReadingLaws.{one_here, met, stands_here}
use Rattle.queue.proofs.change.WriteLaws.{the_limits, shares_sixteen, queue_long, same_queue, one_queue, tip_of_law}
use Rattle.queue.proofs.change.WriteNextLaws.{step_is}
use Rattle.queue.proofs.change.PlanLaws.{row, made_same, made_out, made_cancelled, made_expired, number_1, number_some, number_small, rec_some, Reached, reach, no_rows, no_rows_at, visit_turn, PlanLoop, plan_loop, plan_next, plan_close}

-- ---- the rows applied

all_some : (l : List Rec) → All (λ r. 0 < length (rec_c.enc r)) l
all_some [] = tt
all_some (r ∷ l) = (rec_some r, all_some l)

all_parts : {A : Type 0} (P : A → Type 0) (l m : List A) → All P (l ++ m) → All P l × All P m
all_parts P [] m h = (tt, h)
all_parts P (a ∷ l) m h = let i = all_parts P l m h.1 in ((h.0, i.0), i.1)

abbrev pub planned_by : Bytes → Open → Bytes → List ℕ → List ℕ → List Rec
planned_by s u t vs rows = edited (row_made u.head.counter.0 t vs) u.start (list_at (form_c false rec_c) u.head.count s u.start) rows

pub record Editing (s : Bytes) (u : Open) (t : Bytes) (vs rows : List ℕ) (to : ℕ) (d₀ dst : Bytes) (k from o : ℕ) : Type 0 where
  pub l : List Rec
  pub fine : All rec_c.ok l
  pub here : drop from s ≡ encs rec_c l ++ drop u.next s
  pub up : from ≤ u.next
  pub few : k ≤ length rows
  pub long : length dst ≡ length d₀
  pub fit : RowsAt (RowFits u.head.counter.0 t vs) from l (drop k rows)
  pub rest : Left d₀ to (encs rec_c (planned_by s u t vs rows)) dst o (encs rec_c (edited (row_made u.head.counter.0 t vs) from l (drop k rows)))

pub editing : {s : Bytes} {a : Area} {t : Bytes} {vs rows : List ℕ} (to : ℕ) (d₀ : Bytes) → AreaIn s a → RowsIn s a t vs rows → Editing s a.open t vs rows to d₀ d₀ 0 a.open.start to
editing {s} {a} {t} {vs} {rows} to d₀ w h =
    let st = w.read.store in
    record {
      l = recs_in s a;
      fine = rw st.list (ok_store area_form (store_of w.q) (ok_queue w.q w.read.range).1).1;
      here =
          sym (take-append-drop (a.open.next - a.open.start) (drop a.open.start s))
          ∙ join_same ((recs_here w.read).0 ∙ ap (encs rec_c) (sym st.list)) (drop-drop (a.open.next - a.open.start) a.open.start s ∙ ap (λ k. drop k s) (let y : a.open.start + (a.open.next - a.open.start) ≡ a.open.next = omega (arith, st.up) in y));
      up = st.up;
      few = omega arith;
      long = refl;
      fit = h;
      rest = begun _ _ _;
    }

module _ {s : Bytes} {a : Area} {t : Bytes} {vs rows : List ℕ} {to : ℕ} {d₀ dst : Bytes} {k from o : ℕ} (g : Editing s a.open t vs rows to d₀ dst k from o) (w : AreaIn s a) where
  module _ (p : k < length rows) where
    next_row : drop k rows ≡ get_or rows k 0 ∷ drop (k + 1) rows
    next_row = rw add-one (drop-cons rows k 0 p)

    pub R : Reached (row_made a.open.head.counter.0 t vs) (RowFits a.open.head.counter.0 t vs) from g.l (get_or rows k 0) (drop (k + 1) rows)
    R = reach (row_made a.open.head.counter.0 t vs) (RowFits a.open.head.counter.0 t vs) from g.l (get_or rows k 0) (drop (k + 1) rows) (all_some g.l) (rw next_row at g.fit)

    abbrev pub row_place : ℕ
    row_place = (row_of (get_or rows k 0)).place

    abbrev pub row_size : ℕ
    row_size = length (rec_c.enc R.r)

    parts : drop from s ≡ encs rec_c R.before ++ (rec_c.enc R.r ++ (encs rec_c R.behind ++ drop a.open.next s))
    unfolding encs
    parts =
        g.here ∙ ap (λ l. encs rec_c l ++ drop a.open.next s) R.list
        ∙ ap (λ (l : Bytes). l ++ drop a.open.next s) (encs_append R.before (R.r ∷ R.behind))
        ∙ join_four (encs rec_c R.before) (rec_c.enc R.r) (encs rec_c R.behind) (drop a.open.next s)

    at_here : drop row_place s ≡ rec_c.enc R.r ++ (encs rec_c R.behind ++ drop a.open.next s)
    at_here = drop_past s (encs rec_c R.before) (rec_c.enc R.r ++ (encs rec_c R.behind ++ drop a.open.next s)) from R.place parts

    then_here : drop (row_place + row_size) s ≡ encs rec_c R.behind ++ drop a.open.next s
    then_here = drop_past s (rec_c.enc R.r) (encs rec_c R.behind ++ drop a.open.next s) row_place refl at_here

    fine_r : rec_c.ok R.r
    fine_r = (all_parts rec_c.ok R.before (R.r ∷ R.behind) (rw R.list at g.fine)).1.0

    pub edit_at : (from ≤ row_place) × (row_place + row_size ≤ a.open.next) × (a.open.next ≤ length s)
    edit_at =
        let st = w.read.store in
        let e = ap length then_here in
        let b = R.place in
        let e1 = length-append (encs rec_c R.behind) (drop a.open.next s) in
        let d1 = length-drop (row_place + row_size) s in
        let d2 = length-drop a.open.next s in
        let f = ap length at_here in
        let f1 = length-append (rec_c.enc R.r) (encs rec_c R.behind ++ drop a.open.next s) in
        let d3 = length-drop row_place s in
        let z = rec_some R.r in
        (omega arith, omega (arith, st.ends), st.ends)

    stands : Here s row_place R.r
    stands =
        let e : (form_c false rec_c).dec (drop row_place s) ≡ got R.r (drop (row_place + row_size) s) =
        rw form_raw (ap rec_c.dec at_here ∙ rec_c.fwd R.r (encs rec_c R.behind ++ drop a.open.next s) fine_r ∙ ap (got R.r) (sym then_here)) in
        let o = one_here s row_place (row_place + row_size) R.r e in
        let z = edit_at in
        (omega (arith, z.1, z.2), o.0, o.1)

    pub edit_copy : (take (row_place - from) (drop from s) ≡ encs rec_c R.before) × (length (encs rec_c R.before) ≡ row_place - from)
    edit_copy = let z = edit_at in between s (encs rec_c R.before) from row_place (parts ∙ ap (λ (l : Bytes). encs rec_c R.before ++ l) (sym at_here)) z.0 (omega (arith, z.1, z.2))

    pub edit_fit : RowFit t vs a.open.head.counter.0 (row_of (get_or rows k 0))
    edit_fit = R.fit

    abbrev ahead : Bytes
    ahead = encs rec_c (edited (row_made a.open.head.counter.0 t vs) (row_place + row_size) R.behind (drop (k + 1) rows))

    cut : encs rec_c (edited (row_made a.open.head.counter.0 t vs) from g.l (drop k rows)) ≡ encs rec_c R.before ++ (encs rec_c (made t vs a.open.head.counter.0 (row_of (get_or rows k 0)) R.r) ++ ahead)
    cut =
        ap (λ l. encs rec_c (edited (row_made a.open.head.counter.0 t vs) from g.l l)) next_row
        ∙ ap (encs rec_c) R.is
        ∙ encs_append R.before (made t vs a.open.head.counter.0 (row_of (get_or rows k 0)) R.r ++ edited (row_made a.open.head.counter.0 t vs) (row_place + row_size) R.behind (drop (k + 1) rows))
        ∙ ap (λ (l : Bytes). encs rec_c R.before ++ l) (encs_append (made t vs a.open.head.counter.0 (row_of (get_or rows k 0)) R.r) (edited (row_made a.open.head.counter.0 t vs) (row_place + row_size) R.behind (drop (k + 1) rows)))

    long_cut : length (encs rec_c (edited (row_made a.open.head.counter.0 t vs) from g.l (drop k rows))) ≡ row_place - from + (length (encs rec_c (made t vs a.open.head.counter.0 (row_of (get_or rows k 0)) R.r)) + length ahead)
    long_cut =
        ap length cut
        ∙ length-append (encs rec_c R.before) (encs rec_c (made t vs a.open.head.counter.0 (row_of (get_or rows k 0)) R.r) ++ ahead)
        ∙ let e = length-append (encs rec_c (made t vs a.open.head.counter.0 (row_of (get_or rows k 0)) R.r)) ahead in omega (arith, edit_copy.1)

    pub edit_room : to + length (encs rec_c (planned_in s a t vs rows)) ≤ length d₀ → o + (row_place - from) ≤ length dst
    edit_room h = omega (arith, g.rest.pos, g.long, long_cut)

    module _ {x : Seen} (r : FoundRec false s row_place x.size x) where
      pub edit_seen : SeenIn false s row_place x.size x R.r
      edit_seen = met stands r

      module _ (S : Small t) where
        made_is : step_n s row_place x t (verdict_in_value vs (row_of (get_or rows k 0))) (number_n a.open.head.counter.0 (row_of (get_or rows k 0)).rank) ≡ encs rec_c (made t vs a.open.head.counter.0 (row_of (get_or rows k 0)) R.r)
        unfolding made
        made_is =
            let W = row_of (get_or rows k 0) in
            step_is s row_place x t (verdict_in_value vs W) (number_n a.open.head.counter.0 W.rank) R.r (edit_seen.0, fine_r)
            (λ e. rw (eq-eqb W.what 1 e) (edit_fit.entry e).2) S (number_small a.open.head.counter.0 W.rank edit_fit.number)

        module _ {d₁ : Bytes} {e : ℕ} (P1 : Put dst o (take (row_place - from) (drop from s)) (row_place - from) e d₁) where
          pub edit_step : to + length (encs rec_c (planned_in s a t vs rows)) ≤ length d₀ → e + length (step_n s row_place x t (verdict_in_value vs (row_of (get_or rows k 0))) (number_n a.open.head.counter.0 (row_of (get_or rows k 0)).rank)) ≤ length d₁
          edit_step h = omega (arith, g.rest.pos, g.long, long_cut, kept P1, P1.next, ap length made_is)

          pub edit_go : {d₂ : Bytes} {m o' : ℕ} → Put d₁ e (step_n s row_place x t (verdict_in_value vs (row_of (get_or rows k 0))) (number_n a.open.head.counter.0 (row_of (get_or rows k 0)).rank)) m o' d₂ → Editing s a.open t vs rows to d₀ d₂ (k + 1) (row_place + x.size) o'
          edit_go P2 =
              let z : row_size ≡ x.size = edit_seen.1.size in
              let y = edit_at in
              rw (sym z) (record {
                l = R.behind;
                fine = (all_parts rec_c.ok R.before (R.r ∷ R.behind) (rw R.list at g.fine)).1.1;
                here = then_here;
                up = y.1;
                few = omega arith;
                long = kept P2 ∙ kept P1 ∙ g.long;
                fit = R.rest;
                rest = onward (onward (rw cut at g.rest) (recast P1 edit_copy.0 refl refl)) (recast P2 made_is refl refl);
              })

    -- the same of what the code has: the row's place, verdict and number
    pub row_fit : {W : RowNumbers} → W ≡ row_of (get_or rows k 0) → RowFit t vs a.open.head.counter.0 W
    row_fit e = rw (← e) at edit_fit

    module _ {at' : ℕ} (ea : at' ≡ row_place) where
      pub row_at : (from ≤ at') × (at' ≤ length s)
      row_at = rw ea (let z = edit_at in (z.0, omega (arith, z.1, z.2)))

      pub row_copy : to + length (encs rec_c (planned_in s a t vs rows)) ≤ length d₀ → o + (at' - from) ≤ length dst
      row_copy h = rw ea (edit_room h)

      pub row_stands : reads? rec_c (view false s at') 0 ≡ true
      row_stands = rw ea (stands_here s row_place stands)

      module _ {x : Seen} (r : FoundRec false s at' x.size x) where
        pub row_seen : SeenIn false s at' x.size x R.r
        row_seen = rw ea (edit_seen (rw ea at r))

        module _ (S : Small t) {v : VerdictNumbers} (ev : v ≡ verdict_in_value vs (row_of (get_or rows k 0))) {n : ℕ} (en : n ≡ number_n a.open.head.counter.0 (row_of (get_or rows k 0)).rank) {d₁ : Bytes} {e : ℕ} (P1 : Put dst o (take (at' - from) (drop from s)) (at' - from) e d₁) where
          step_as : step_n s at' x t v n ≡ step_n s row_place x t (verdict_in_value vs (row_of (get_or rows k 0))) (number_n a.open.head.counter.0 (row_of (get_or rows k 0)).rank)
          step_as = three ea ev en
            where
              three : {i i' n n' : ℕ} {v v' : VerdictNumbers} → i ≡ i' → v ≡ v' → n ≡ n' → step_n s i x t v n ≡ step_n s i' x t v' n'
              three e f g = cc

          pub row_fits : to + length (encs rec_c (planned_in s a t vs rows)) ≤ length d₀ → e + length (step_n s at' x t v n) ≤ length d₁
          row_fits h = let z = edit_step (rw ea at r) S (rw ea at P1) h in omega (arith, ap length step_as)

          pub row_go : {d₂ : Bytes} {m o' : ℕ} → Put d₁ e (step_n s at' x t v n) m o' d₂ → Editing s a.open t vs rows to d₀ d₂ (k + 1) (at' + x.size) o'
          row_go P2 = rw ea (edit_go (rw ea at r) S (rw ea at P1) (recast P2 step_as refl refl))

  pub edit_end : length rows ≤ k → (take (a.open.next - from) (drop from s) ≡ encs rec_c g.l) × (length (encs rec_c g.l) ≡ a.open.next - from)
  edit_end h = between s (encs rec_c g.l) from a.open.next g.here g.up w.read.store.ends

  no_more : length rows ≤ k → encs rec_c (edited (row_made a.open.head.counter.0 t vs) from g.l (drop k rows)) ≡ encs rec_c g.l
  no_more h = ap (λ l. encs rec_c (edited (row_made a.open.head.counter.0 t vs) from g.l l)) (drop_of_length-le rows h) ∙ ap (encs rec_c) (no_rows (row_made a.open.head.counter.0 t vs) from g.l)

  pub last_room : length rows ≤ k → to + length (encs rec_c (planned_in s a t vs rows)) ≤ length d₀ → o + (a.open.next - from) ≤ length dst
  last_room h l = omega (arith, g.rest.pos, g.long, ap length (no_more h), (edit_end h).1)

  pub edit_done : length rows ≤ k → {d₁ : Bytes} {o' : ℕ} → Put dst o (take (a.open.next - from) (drop from s)) (a.open.next - from) o' d₁
      → Put d₀ to (encs rec_c (planned_in s a t vs rows)) (length (encs rec_c (planned_in s a t vs rows))) o' d₁
  edit_done h P = puts.done (onward (rw (no_more h, ← append-nil (encs rec_c g.l)) at g.rest) (recast P (edit_end h).0 refl refl))

-- ---- the whole area
module _ {s : Bytes} {a : Area} {m : Marks} {t : Bytes} {vs rows : List ℕ} (w : PlanFor s a m t vs rows) where
  abbrev Limit : Limits
  Limit = limits_in a.open.head.limits

  need_is : a.need ≡ need Limit
  need_is = w.area.read.need ∙ ap need (the_limits w.area.read)

  pub planned_room : TipLong m.tip → front_len + tip_size m.tip + length (encs rec_c (planned_in s a t vs rows)) ≤ a.need
  planned_room h = let q = queue_long Limit m (planned_in s a t vs rows) (shares_sixteen w.area.read) w.count h in omega (arith, w.fits)

  pub planned_done : {d d₁ d₂ d₃ : Bytes} {o y y' to : ℕ} → a.need ≤ length d → to ≡ front_len + tip_size m.tip
      → Put d to (encs rec_c (planned_in s a t vs rows)) (length (encs rec_c (planned_in s a t vs rows))) o d₁ → Put d₁ 0 (front_bytes Limit m) (front_len + tip_size m.tip) y d₂ → Put d₂ o (replicate (a.need - o) 0) (a.need - o) y' d₃
      → d₃ ≡ over (area_bytes (planned_q s a m t vs rows)) d
  planned_done g h p1 p2 p3 = area_done Limit m (planned_in s a t vs rows) w.count (let f = w.fits in omega (arith, need_is)) need_is g p1 (recast p2 refl (sym h) refl) p3

-- ---- another cursor
module _ {s : Bytes} {a : Area} {persisted cursor : Height} {tip : code.Option Id} (w : MovedFrom s a persisted cursor tip) where
  abbrev pub marks_for : Marks
  marks_for = record { persisted = persisted; revision = a.open.head.revision; cursor = cursor; tip = tip; counter = a.open.head.counter; count = a.open.head.count }

  area_moved : AreaIn s a
  area_moved = record { q = w.q; is = w.is; read = w.read }

  moved_is : planned_q s a marks_for [] [] [] ≡ moved persisted.0 cursor.0 (tip_in tip) w.q
  unfolding moved
  moved_is = same_queue refl (sym (the_limits w.read)) (sym w.read.store.head.revision) refl refl (sym w.read.store.head.counter) (no_rows (row_made a.open.head.counter.0 [] []) a.open.start (recs_in s a) ∙ w.read.store.list)

  pub moved_plan : PlanFor s a marks_for [] [] []
  moved_plan =
      let st = w.read.store in
      record {
        area = area_moved;
        bytes = tt;
        fit = no_rows_at (RowFits a.open.head.counter.0 [] []) a.open.start (recs_in s a);
        count = sym (ap length (no_rows (row_made a.open.head.counter.0 [] []) a.open.start (recs_in s a) ∙ st.list) ∙ st.count);
        small = record { persisted = w.small; revision = st.head.revision_small; cursor = w.small_cursor; counter = st.head.counter_small; count = st.head.count_small };
        fits = let u = ap (λ v. length (queue_c.enc v)) moved_is in omega (arith, w.fits, w.read.need);
      }

  pub moved_done : (d : Bytes) {d' : Bytes} {q' : Queue} → read_area s ≡ some q' → d' ≡ over (area_bytes (planned_q s a marks_for [] [] [])) d → d' ≡ over (area_bytes (moved persisted.0 cursor.0 (tip_in tip) q')) d
  moved_done d e f = f ∙ ap (λ v. over (area_bytes v) d) (moved_is ∙ ap (moved persisted.0 cursor.0 (tip_in tip)) (one_queue s w.is e))

-- ---- those picked finished, the lowest numbers forgotten
abbrev pub ended_from : ℕ → Change → Id → ℕ → ℕ → List Rec → List Rec
ended_from floor c id n given l = filter (stay_r floor) (finish_those (picked c id) (end_state c) (end_reason c) (n + given) l)

abbrev pub end_row : ℕ → Change → ℕ → ℕ → ℕ → Bool → Rec → ℕ → RowNumbers
end_row floor c n given i hit r rank = row i 0 rank (cond (stay_f (number_n n rank) floor (facts_of r)) (cond hit (end_what c) 0) 7)

ended_hit : (floor n given i : ℕ) (c : Change) (id : Id) (r : Rec) (l : List Rec) → picked c id r ≡ true
    → ended_from floor c id n given (r ∷ l) ≡ made [] [] n (end_row floor c n given i true r (given + 1)) r ++ ended_from floor c id n (given + 1) l
unfolding finish_those stay_f finished
ended_hit floor n given i c id r l h =
    let a : n + given + 1 ≡ n + (given + 1) = omega arith in
    let b : number_n n (given + 1) ≡ n + (given + 1) = sym (number_1 n (given + 1) (λ e. let y : ⊥ = omega arith in y)) in
    let z : eqb (n + (given + 1)) 0 ≡ false = ne_eqb (n + (given + 1)) 0 (λ e. let y : ⊥ = omega arith in y) in
    cases (leb floor (n + (given + 1)))
    (λ k. rw (h, a, b, z, k) (ap (λ (v : List Rec). v ++ ended_from floor c id n (given + 1) l) (sym (of c ∙ ap (λ v. finished (end_state c) (end_reason c) v r ∷ []) b))))
    (λ k. rw (h, a, b, z, k) (ap (λ (v : List Rec). v ++ ended_from floor c id n (given + 1) l) (sym (made_out [] [] n i 0 r (given + 1)))))
  where
    of : (c : Change) → made [] [] n (row i 0 (given + 1) (end_what c)) r ≡ finished (end_state c) (end_reason c) (number_n n (given + 1)) r ∷ []
    of Named = made_cancelled [] [] n i 0 r (given + 1) (number_some n (given + 1) (λ e. let y : ⊥ = omega arith in y))
    of (Due t h) = made_expired [] [] n i 0 r (given + 1) (number_some n (given + 1) (λ e. let y : ⊥ = omega arith in y))

ended_miss : (floor n given i : ℕ) (c : Change) (id : Id) (r : Rec) (l : List Rec) → picked c id r ≡ false
    → ended_from floor c id n given (r ∷ l) ≡ made [] [] n (end_row floor c n given i false r 0) r ++ ended_from floor c id n given l
unfolding finish_those stay_f number_n facts_of
ended_miss floor n given i c id r l h = cases (holder? r || leb floor r.finish)
    (λ k. rw (h, k) (ap (λ (v : List Rec). v ++ ended_from floor c id n given l) (sym (made_same [] [] n i 0 r))))
    (λ k. rw (h, k) (ap (λ (v : List Rec). v ++ ended_from floor c id n given l) (sym (made_out [] [] n i 0 r 0))))

abbrev pub ended_at : Bytes → ℕ → ℕ → ℕ → Change → Id → ℕ → List Rec
ended_at s at n num c id floor = filter (stay_r floor) (finish_those (picked c id) (end_state c) (end_reason c) num (list_at (form_c false rec_c) n s at))

pub record EndPlan (s : Bytes) (at n num : ℕ) (c : Change) (id : Id) (floor : ℕ) (d : List ℕ) (i left k many given : ℕ) : Type 0 where
  pub loop : PlanLoop s at n num [] [] (ended_at s at n num c id floor) d i left k many (ended_from floor c id (num) given (list_at (form_c false rec_c) left s i))
  pub nums : given + count (picked c id) (list_at (form_c false rec_c) left s i) ≡ count (picked c id) (list_at (form_c false rec_c) n s at)

pub end_plan : {s : Bytes} {a : Area} (num : ℕ) (c : Change) (id : Id) (floor : ℕ) (d : List ℕ) → AreaIn s a → length d ≡ 3072 → EndPlan s a.open.start a.open.head.count num c id floor d a.open.start a.open.head.count 0 0 0
end_plan {s} {a} num c id floor d w l =
    let e : ended_at s a.open.start a.open.head.count num c id floor ≡ ended_from floor c id num 0 (recs_in s a) = ap (λ n. filter (stay_r floor) (finish_those (picked c id) (end_state c) (end_reason c) n (recs_in s a))) (sym (add-zero num)) in
    record { loop = start e (plan_loop num [] [] (ended_at s a.open.start a.open.head.count num c id floor) d w l); nums = omega arith }
  where
    start : {l m all : List Rec} {i left k many : ℕ} → l ≡ m → PlanLoop s a.open.start a.open.head.count num [] [] all d i left k many l → PlanLoop s a.open.start a.open.head.count num [] [] all d i left k many m
    start e g = rw (← e) g

module _ {s : Bytes} {at n num : ℕ} {c : Change} {id : Id} {floor : ℕ} {d : List ℕ} {i left k many given : ℕ} (g : EndPlan s at n num c id floor d i left k many given) where
  module _ {hit : Bool} {x : Seen} (p : 0 < left) (r : FoundRec false s i x.size x) (e : hit ≡ picked_s c id x) where
    hit_is : hit ≡ picked c id (visit_turn g.loop.visit p r).item
    hit_is = e ∙ picked_is c id (visit_turn g.loop.visit p r).is.0

    -- how many were given, with this one, and how many there are
    more : given + cond hit 1 0 + count (picked c id) (list_at (form_c false rec_c) (left - 1) s (i + x.size)) ≡ count (picked c id) (list_at (form_c false rec_c) n s at)
    more =
        let T = visit_turn g.loop.visit p r in
        let y = ap (count (picked c id)) T.list in
        let z : cond hit 1 0 ≡ one (picked c id T.item) = ap (λ b. cond b 1 0) hit_is in
        omega (arith, g.nums)

    pub ended_given : count (picked c id) (list_at (form_c false rec_c) n s at) ≤ 2048 → given + cond hit 1 0 ≤ 2048
    ended_given h = omega (arith, more)

    module _ {rank : ℕ} (er : rank ≡ cond hit (given + 1) 0) where
      rank_most : rank ≤ given + cond hit 1 0
      rank_most = rw er (cases hit (λ b. rw b (omega arith)) (λ b. rw b (omega arith)))

      pub ended_number : num + count (picked c id) (list_at (form_c false rec_c) n s at) < 18446744073709551616 → num + rank < 18446744073709551616
      ended_number h = let y = rank_most in omega (arith, more)

      module _ {what : ℕ} (ew : what ≡ cond (stay_f (number_n (num) rank) floor x.facts) (cond hit (end_what c) 0) 7) where
        what_few : what < 8
        what_few = cases (stay_f (number_n (num) rank) floor x.facts)
            (λ b. cases hit
            (λ h. let y = ew ∙ rw (b, h) in of c y)
            (λ h. let y : what ≡ 0 = ew ∙ rw (b, h) in omega arith))
            (λ b. let y : what ≡ 7 = ew ∙ rw b in omega arith)
          where
            of : (c : Change) → what ≡ end_what c → what < 8
            of Named y = omega arith
            of (Due t h) y = omega arith

        pub ended_packs : i < 4294967296 → count (picked c id) (list_at (form_c false rec_c) n s at) ≤ 2048 → Packs (row i 0 rank what)
        ended_packs w h = record { place = w; index = omega arith; rank = let y = rank_most in omega (arith, ended_given h); what = what_few }

        what_not : what ≡ 1 → ⊥
        what_not o = cases (stay_f (number_n (num) rank) floor x.facts)
            (λ b. cases hit
            (λ h. let y = ew ∙ rw (b, h) in of c y)
            (λ h. let y : what ≡ 0 = ew ∙ rw (b, h) in let z : ⊥ = omega arith in z))
            (λ b. let y : what ≡ 7 = ew ∙ rw b in let z : ⊥ = omega arith in z)
          where
            of : (c : Change) → what ≡ end_what c → ⊥
            of Named y = let z : ⊥ = omega arith in z
            of (Due t h) y = let z : ⊥ = omega arith in z

        turned : ended_from floor c id (num) given (list_at (form_c false rec_c) left s i)
            ≡ made [] [] (num) (row i 0 rank what) (visit_turn g.loop.visit p r).item ++ ended_from floor c id (num) (given + cond hit 1 0) (list_at (form_c false rec_c) (left - 1) s (i + x.size))
        turned =
            let T = visit_turn g.loop.visit p r in
            let L = list_at (form_c false rec_c) (left - 1) s (i + x.size) in
            let f : what ≡ cond (stay_f (number_n num rank) floor (facts_of T.item)) (cond hit (end_what c) 0) 7 = ew ∙ ap (λ v. cond (stay_f (number_n num rank) floor v) (cond hit (end_what c) 0) 7) T.is.0.facts in
            ap (ended_from floor c id num given) T.list ∙ cases hit
            (λ b.
            let u : rank ≡ given + 1 = er ∙ ap (λ v. cond v (given + 1) 0) b in
            ended_hit floor num given i c id T.item L (sym hit_is ∙ b)
            ∙ two (sym (f ∙ rw (b, u))) (sym u) (let y : given + 1 ≡ given + cond hit 1 0 = rw b in y))
            (λ b.
            let u : rank ≡ 0 = er ∙ ap (λ v. cond v (given + 1) 0) b in
            ended_miss floor num given i c id T.item L (sym hit_is ∙ b)
            ∙ two (sym (f ∙ rw (b, u))) (sym u) (let y : given ≡ given + cond hit 1 0 = rw b (omega arith) in y))
          where
            two : {w w' k k' z z' : ℕ} → w ≡ w' → k ≡ k' → z ≡ z' → made [] [] (num) (row i 0 k w) (visit_turn g.loop.visit p r).item ++ ended_from floor c id (num) z (list_at (form_c false rec_c) (left - 1) s (i + x.size))
                ≡ made [] [] (num) (row i 0 k' w') (visit_turn g.loop.visit p r).item ++ ended_from floor c id (num) z' (list_at (form_c false rec_c) (left - 1) s (i + x.size))
            two e f h = rw (e, f, h)

        pub ended_go : {d' : List ℕ} {k' m u : ℕ} → RowAdded (row i 0 rank what) k d k' d' → num + count (picked c id) (list_at (form_c false rec_c) n s at) < 18446744073709551616 → m ≡ cond (not (eqb what 7)) 1 0 → u ≡ cond hit 1 0
            → EndPlan s at n num c id floor d' (i + x.size) (left - 1) k' (many + m) (given + u)
        ended_go A h n v = rw v (record {
          loop = plan_next g.loop p r A refl (record { entry = λ o. absurd (what_not o); number = ended_number h }) turned n;
          nums = more;
        })

pub ended_end : {s : Bytes} {a : Area} {num : ℕ} {c : Change} {id : Id} {floor : ℕ} {d : List ℕ} {i left k many given : ℕ} → EndPlan s a.open.start a.open.head.count num c id floor d i left k many given → AreaIn s a → num ≡ a.open.head.counter.0 → left ≡ 0
    → Planned s a [] [] (take k d) (ended_l s a c id floor) many × (k ≤ 3072)
unfolding finish_those
ended_end {s} {a} {num} {c} {id} {floor} {d} {i} {left} {k} {many} {given} g w e z =
    let h = plan_close g.loop w e z (ap (ended_from floor c id num given) (none_left (form_c false rec_c) s left i z).0) in
    (rw e at h.0, h.1)

-- ---- the whole area with those finished
count_most : (p : Rec → Bool) (l : List Rec) → Picks p l → count p l ≤ count holder? l
count_most p [] h = omega arith
count_most p (r ∷ l) h = let i = count_most p l h.1 in cases (p r)
    (λ t. let b = h.0 t in rw (t, b) (omega arith))
    (λ t. rw t (omega arith))

module _ {s : Bytes} {a : Area} {c : Change} {id : Id} {m : ℕ} (w : EndedFrom s a c id m) where
  pub area_ended : AreaIn s a
  area_ended = record { q = w.q; is = w.is; read = w.read }

  pub ended_asks : (count (picked c id) (recs_in s a) ≤ 2048) × (a.open.head.counter.0 + count (picked c id) (recs_in s a) < 18446744073709551616)
  ended_asks =
      let g = (fit w.read).sound in
      (rw w.read.store.list (omega (arith, count_most (picked c id) w.q.recs w.picks, g.few_holders, g.range.P-high)), rw (← w.hits) w.room)

  abbrev pub FloorIs : ℕ → Type 0
  FloorIs f = ((sum Tombstones (list_at (form_c false rec_c) a.open.head.count s a.open.start) + m ≤ a.open.head.limits.t) × (f ≡ 0)) ⊎ ((x : ℕ) → ltb (above a.open.head.counter.0 m (list_at (form_c false rec_c) a.open.head.count s a.open.start) x) a.open.head.limits.t ≡ leb f x)

  ended_list : {f : ℕ} → FloorIs f → forget w.q.limits.T (finish_those (picked c id) (end_state c) (end_reason c) w.q.counter w.q.recs) ≡ ended_l s a c id f
  ended_list {f} x =
      let st = w.read.store in
      let t : w.q.limits.T ≡ a.open.head.limits.t = head_t st.head in
      let n : w.q.counter ≡ a.open.head.counter.0 = st.head.counter in
      let k : All (λ r. picked c id r ≡ true → holder? r ≡ true) (recs_in s a) = rw st.list w.picks in
      rw (t, n, ← st.list) (forget_floor a.open.head.limits.t f (finish_those (picked c id) (end_state c) (end_reason c) a.open.head.counter.0 (recs_in s a))
      (floors (picked c id) (end_state c) (end_reason c) a.open.head.counter.0 a.open.head.limits.t f (recs_in s a) k (rw w.hits at x)))

  module _ (tip : code.Option Id) {f kept : ℕ} {rows : List ℕ} (x : FloorIs f) (t : TipIs s a.open.head tip) (P : Planned s a [] [] rows (ended_l s a c id f) kept) where
    ended_is : planned_q s a (marks_after a.open.head tip m kept) [] [] rows ≡ ended (picked c id) (end_state c) (end_reason c) w.q
    unfolding ended committed
    ended_is =
        let st = w.read.store in
        same_queue (sym st.head.cursor) (sym (the_limits w.read)) (ap (λ v. (v + 1) % 2 ^ 64) (sym st.head.revision)) (sym st.head.cursor) (tip_of_law w.read tip t)
        (ap (λ v. v + m) (sym st.head.counter) ∙ ap (λ v. w.q.counter + v) (w.hits ∙ ap (count (picked c id)) st.list)) (P.are ∙ sym (ended_list x))

    pub ended_plan : PlanFor s a (marks_after a.open.head tip m kept) [] [] rows
    ended_plan =
        let h = w.read.store.head in
        record {
          area = area_ended;
          bytes = tt;
          fit = P.fit;
          count = P.count ∙ sym (ap length P.are);
          small = record { persisted = h.cursor_small; revision = mod-lt _ (omega arith); cursor = h.cursor_small; counter = w.room; count = omega (arith, P.few, h.count_small) };
          fits = let u = ap (λ v. length (queue_c.enc v)) ended_is in omega (arith, w.fits, w.read.need);
        }

    pub ended_done : (d : Bytes) {d' : Bytes} {q' : Queue} → read_area s ≡ some q' → d' ≡ over (area_bytes (planned_q s a (marks_after a.open.head tip m kept) [] [] rows)) d → d' ≡ over (area_bytes (ended (picked c id) (end_state c) (end_reason c) q')) d
    ended_done d e h = h ∙ ap (λ v. over (area_bytes v) d) (ended_is ∙ ap (ended (picked c id) (end_state c) (end_reason c)) (one_queue s w.is e))

-- Reconciliation, exit by exit. Assumes nothing.
use Rattle.std.specs.Prelude as code
use Rattle.std.specs.Prelude.{◌≡◌, refl, Bool, true, false, cond, not, ◌||◌, ◌⊎◌, List, [], ◌∷◌, ℕ, ◌+◌, ◌-◌, ◌*◌, ◌/◌, ◌%◌, ◌^◌, ◌≤◌, ◌<◌, min, ltb, leb, eqb, length, take}
use Rattle.std.proofs.Common.{ap, sym, ◌∙◌, arith, mod-lt, length-append, length-take, length-take-le, lt-ltb, le-ltb, ltb-false}
use Rattle.std.proofs.Math.Option.{none, some}
use Rattle.std.proofs.Math.Nat.{min-eq_left, min-eq_right, min-le_left}
use Rattle.queue.proofs.check.AreaLaws.{fit}
use Rattle.queue.specs.check.NumbersAs.{above}
use Rattle.queue.specs.Basics.{join_same, or_same, cons_same}
use Rattle.queue.specs.layout.FrameAs.{head_p, head_b, head_t}
use Rattle.queue.specs.Codec as codec
use Rattle.queue.specs.Codec.{All, cases, opt_c}
use Rattle.queue.specs.bytes.PutAs.{Put, splice, be_last}
use Rattle.queue.specs.layout.FrameCodec.{rec_c, id_c}
use Rattle.queue.specs.bytes.Parts.{part}
use Rattle.queue.specs.bytes.ViewAs.{view}
use Rattle.queue.specs.bytes.ReaderAs.{list_at}
use Rattle.queue.specs.layout.FormsCodec.{form_c, queue_c}
use Rattle.queue.specs.Areas.{read_area}
use Rattle.queue.specs.theorems.Bound.{fits_need}
use Rattle.queue.specs.Lists.{Pairwise, sub_pairwise, and_true}
use Rattle.queue.specs.bytes.ListLaws.{filter_sub, all_every, sort_all, map_length, sort_length}
use Rattle.queue.specs.bytes.OrderLaws.{or_false}
use Rattle.queue.specs.theorems.SoundParts.{Fit, fit_sound, fit_ok, Before}
use Rattle.queue.specs.theorems.CallsKeeps.{Alike, alike_rising, leaves_kept, moved_fit}
use Rattle.queue.specs.theorems.ReconcileKeeps.{touched_alike, reconcile_leaves, released_all, released}
use Rattle.queue.specs.check.AreaAs.{limits, records_of, AreaIn}
use Rattle.queue.specs.check.RulesAs.{sum}
use Rattle.queue.specs.change.WriteAs.{MovedFrom, MovedTo}
use Rattle.queue.specs.theorems.Arguments.{reconciling_ok}
use Rattle.queue.specs.change.LentAs.{ReconcileAsked}
use Rattle.queue.specs.change.ReopenAs.{ids_at}
use Rattle.queue.specs.read.SelectAs.{Row, row_of, ahead?, id_at}
use Rattle.queue.specs.change.TouchAs.{applied_in, own_ids, InEntry, Judged, changed?, changes?}
use Rattle.queue.specs.change.ReleaseAs.{next_r, next_v, next_l, mined_of, StandsAt, bytes_at, FallingRows, MinedRows, MinedGathered, walk_r}
use Rattle.queue.specs.change.RanksAs.{kept_of, kept_l, kept_in}
use Rattle.queue.specs.change.PlanAs.{planned_q, PlanFor, Planned}
use Rattle.queue.specs.theorems.Decided.{decided_number}
use Rattle.queue.specs.paper.Decisions.{mined_holder?, decisions}
use Rattle.queue.specs.change.ReconcileAs.{asked, LentTo, JudgedIn, any_touched, whole_q, GoneAre, DecidedAre, ChangedIs, cursor_kind, cursor_to, CursorTold, WholePlan, WholeTo, FloorFor, gone_bytes, ReconcileTold}
use Rattle.queue.specs.paper.Records.{Bytes, Id, Limits, Rec, Queue}
use Rattle.queue.specs.paper.Lists.{is_some, one, any?, count, filter, sort, map, concat, maybe, is_empty?}
use Rattle.queue.specs.paper.Sound.{need, holder?, mined?, content}
use Rattle.queue.specs.paper.Area.{area_bytes, over}
use Rattle.queue.specs.paper.Changing.{done, top, top_height, Applied, Reconciling, touch, mined_height, newer?, releases, release_one, trimmed, committed, moved, reconcile, own_of, touched_recs, to_release}
use Rattle.queue.specs.Checked.{Outcome, outcome, told, reconcile_shape?, reconcile_of}
use Rattle.queue.specs.paper.Calls.{released_bytes, ids_bytes, ReconcileArgs, reconcile_args, reconciliation}
use Rattle.queue.specs.declared.Kind.TheVariants.{Memory, Whole, Cursor}
use Rattle.queue.specs.paper.Answer.{Answer, Refused, Done}
use Rattle.queue.specs.declared.check.area.Area.{Area}
use Rattle.queue.specs.declared.read.select.Ranked.{Ranked}
use Rattle.queue.specs.declared.change.block.Block.{Block}
use Rattle.queue.specs.declared.layout.frame.Height.{Height}
use Rattle.queue.specs.declared.layout.head.Marks.{Marks}
use Rattle.queue.specs.declared.check.rules.Query.TheVariants.{Tombstones}
use Rattle.queue.proofs.bytes.PutLaws.{then, recast, kept, over_splice}
use Rattle.queue.proofs.bytes.PutByteLaws.{be_same}
use Rattle.queue.proofs.change.WriteLaws.{one_queue, same_queue, the_limits}
use Rattle.queue.proofs.read.ReadingLaws.{key}
use Rattle.queue.proofs.read.SelectLaws.{ids_size}
use Rattle.queue.proofs.change.ReleaseLaws.{sort_mined, mined_placed, walk_ids}
use Rattle.queue.proofs.change.TouchLaws.{judged_any, judged_long, judged_within}
use Rattle.queue.proofs.change.ReconcileTrimLaws.{KeepsEach, PlacedOnce, releases_placed, trim_is}

-- ---- rows in order, and walked
module _ (s : Bytes) (z z' : List Ranked) (x : map row_of z' ≡ sort ahead? (map row_of z)) where
  pub rows_stand : All (StandsAt s) (map row_of z) → All (StandsAt s) (map row_of z')
  rows_stand h = rw x (sort_all ahead? (StandsAt s) (map row_of z) h)

  pub rows_long : length z' ≡ length z
  rows_long = sym (map_length row_of z') ∙ ap length x ∙ sort_length ahead? (map row_of z) ∙ map_length row_of z

-- ---- the limits count only by P and B
same_releases : (m m' : Limits) (height window seen bytes : ℕ) (l : List Rec) → m.P ≡ m'.P → m.B ≡ m'.B → releases m height window seen bytes l ≡ releases m' height window seen bytes l
unfolding releases
same_releases m m' height window seen bytes [] e f = refl
same_releases m m' height window seen bytes (r ∷ l) e f =
    let i = same_releases m m' height window (seen + 1) (bytes + length (content r.body)) l e f in
    two (cc' e f) i
  where
    cc' : {p p' b b' : ℕ} → p ≡ p' → b ≡ b' → (leb window (height - mined_height r) || (leb p seen || ltb b (bytes + length (content r.body)))) ≡ (leb window (height - mined_height r) || (leb p' seen || ltb b' (bytes + length (content r.body))))
    cc' e f = cc

    two : {a a' : Bool} {x x' : List Id} → a ≡ a' → x ≡ x' → cond a (r.id ∷ x) x ≡ cond a' (r.id ∷ x') x'
    two e f = cc

walk_part : (P : ℕ → Type 0) (m : Limits) (height window : ℕ) (s : Bytes) (seen bytes : ℕ) (z : List Row) → All P (map (λ (w : Row). w.1.1) z) → All P (walk_r m height window s seen bytes z)
unfolding walk_r
walk_part P m height window s seen bytes [] h = tt
walk_part P m height window s seen bytes (w ∷ z) h =
    let i = walk_part P m height window s (seen + 1) (bytes + bytes_at s w.1.1) z h.1 in
    cases (leb window (height - w.0) || (leb m.P seen || ltb m.B (bytes + bytes_at s w.1.1))) (λ t. rw t (h.0, i)) (λ t. rw t i)

abbrev FloorOf : ℕ → ℕ → ℕ → ℕ → List Rec → Type 0
FloorOf fl c n t l = ((sum Tombstones l + n ≤ t) × (fl ≡ 0)) ⊎ ((x : ℕ) → ltb (above c n l x) t ≡ leb fl x)

floors_to : (fl : ℕ) {c c' n n' t t' : ℕ} {l l' : List Rec} → c ≡ c' → n ≡ n' → t ≡ t' → l ≡ l' → FloorOf fl c n t l → FloorOf fl c' n' t' l'
floors_to fl e f g h x = rw (← e, ← f, ← g, ← h) x

some_is : (x : List Id) {n : ℕ} → n ≡ length x → not (is_empty? x) ≡ ltb 0 n
some_is [] {n} e = sym (le-ltb 0 n (omega arith))
some_is (i ∷ x) {n} e = sym (lt-ltb 0 n (omega arith))

-- ---- records after their verdicts
judged_next : (t : Bytes) (caught : Bool) (own : List Id) (es : List Applied) (l : List Rec) (v : List ℕ) → Judged t caught own es l v → next_v t l v ≡ map (next_r caught own es) l
unfolding next_v next_r
judged_next t caught own es [] [] j = refl
judged_next t caught own es [] (c ∷ v) j = absurd j
judged_next t caught own es (r ∷ l) [] j = absurd j
judged_next t caught own es (r ∷ l) (c ∷ v) j = cons_same (ap (maybe r (λ y. y)) (sym j.0.is)) (judged_next t caught own es l v j.1)

pub verdicts_fit : {s : Bytes} {a : Area} {B : Block} {t ids : Bytes} {vs : List ℕ} → AreaIn s a → JudgedIn s a B t ids vs → (length vs ≡ a.open.head.count) × All (InEntry t) vs
verdicts_fit {s} {a} {B} {t} {ids} {vs} w j =
    let l = list_at (form_c false rec_c) a.open.head.count s a.open.start in
    let own = own_ids (ids_at ids B.available) l in
    (judged_long t B.caught own (applied_in t B.entries) l vs j.all ∙ ap length w.read.store.list ∙ w.read.store.count, judged_within t B.caught own (applied_in t B.entries) l vs j.all)

-- ---- what is lent, and the area
module _ {s : Bytes} {a : Area} (w : AreaIn s a) {B : Block} {t ids : Bytes} (L : LentTo B t ids) {vs : List ℕ} (J : JudgedIn s a B t ids vs) where
  abbrev C : Reconciling
  C = asked B t ids

  abbrev f : Rec → Rec
  f r = maybe r (λ y. y) (touch C (own_of C w.q) r)

  next_is : next_l s a.open.start a.open.head.count t vs ≡ touched_recs C w.q
  unfolding next_l next_r touched_recs touch own_ids
  next_is = judged_next t B.caught (own_ids (ids_at ids B.available) (list_at (form_c false rec_c) a.open.head.count s a.open.start)) (applied_in t B.entries) (list_at (form_c false rec_c) a.open.head.count s a.open.start) vs J.all ∙ ap (λ l. map (next_r B.caught (own_ids (ids_at ids B.available) l) (applied_in t B.entries)) l) w.read.store.list

  alike : (r : Rec) → Alike r (f r)
  alike r = touched_alike C (own_of C w.q) L.ok.applied r

  keeps : (l : List Rec) → KeepsEach f l
  keeps l = all_every _ (λ r. let x = alike r in (ap is_some x.body, x.finish, x.id)) l

  mined_is : mined_of s (records_of a.open) t vs ≡ filter mined_holder? (touched_recs C w.q)
  unfolding mined_of
  mined_is = ap (filter mined_holder?) next_is

  few_mined' : (l : List Rec) → length (filter mined_holder? (map f l)) ≤ count holder? l
  few_mined' [] = omega arith
  few_mined' (r ∷ l) =
      let i = few_mined' l in
      let h : holder? (f r) ≡ holder? r = ap is_some (alike r).body in
      cases (mined_holder? (f r))
      (λ x. let y : holder? r ≡ true = sym h ∙ (and_true (mined? (f r)) (holder? (f r)) x).1 in rw (x, y) (omega arith))
      (λ x. rw x (omega arith))

  pub few_mined : length (mined_of s (records_of a.open) t vs) ≤ 2048
  unfolding touched_recs
  few_mined =
      let e = ap length mined_is in let i = few_mined' w.q.recs in
      let g = (fit w.read).sound in
      omega (arith, g.few_holders, g.range.P-high)

  pub before_mined : Pairwise Before (mined_of s (records_of a.open) t vs)
  unfolding touched_recs
  before_mined = rw mined_is (sub_pairwise Before (filter_sub mined_holder? (map f w.q.recs)) (alike_rising f alike w.q.recs (fit w.read).sound.rising))

  gone_is : releases (limits a.open.head.limits.p a.open.head.limits.b 0 0) B.height.0 B.window 0 0 (sort newer? (mined_of s (records_of a.open) t vs)) ≡ to_release C w.q
  unfolding to_release
  gone_is =
      let h = w.read.store.head in
      same_releases _ w.q.limits B.height.0 B.window 0 0 (sort newer? (mined_of s (records_of a.open) t vs)) (sym (head_p h)) (sym (head_b h))
      ∙ ap (λ l. releases w.q.limits B.height.0 B.window 0 0 (sort newer? l)) mined_is

  module _ {n c : ℕ} {z : List Ranked} (G : MinedGathered s n (mined_of s (records_of a.open) t vs) 2048 c z) where
    pub mined_few : c ≤ 2048
    mined_few = let q = few_mined in omega (arith, G.all)

    pub mined_long : length (take c z) ≡ c
    mined_long = length-take-le c z (omega (arith, mined_few, G.size))

    fall_stand : (b : ℕ) (z : List Row) (l : List Rec) → FallingRows s b z l → All (StandsAt s) z
    fall_stand b [] l h = tt
    fall_stand b (v ∷ z) [] h = absurd h
    fall_stand b (v ∷ z) (x ∷ l) h = (h.0.stands, fall_stand v.1.0 z l h.2)

    pub mined_stands : All (StandsAt s) (map row_of (take c z))
    mined_stands = fall_stand (n + 1) (map row_of (take c z)) _ G.listed

    sorted : MinedRows s (sort ahead? (map row_of (take c z))) (sort newer? (mined_of s (records_of a.open) t vs))
    sorted = sort_mined s (n + 1) (map row_of (take c z)) _ G.listed before_mined

    pub gone_are : (r : ℕ) (gone : List ℕ) → r ≤ length (take c z) → take r gone ≡ walk_r (limits a.open.head.limits.p a.open.head.limits.b 0 0) B.height.0 B.window s 0 0 (sort ahead? (map row_of (take c z))) → (r ≤ 2048) × GoneAre s (asked B t ids) (take r gone)
    gone_are r gone h e =
        let k : r ≤ 2048 = omega (arith, mined_long, mined_few) in (
          k,
          record {
            are = λ q x. ap (map (id_at s)) e ∙ walk_ids _ B.height.0 B.window s 0 0 _ _ sorted ∙ gone_is ∙ ap (to_release C) (one_queue s w.is x);
            placed = rw e (walk_part (λ p. p + 33 ≤ length s) _ B.height.0 B.window s 0 0 _ (mined_placed s (sort ahead? (map row_of (take c z))) (sort newer? (mined_of s (records_of a.open) t vs)) sorted));
            few = let y = length-take r gone in let x = min-le_left r (length gone) in omega arith;
          },
        )

    pub decided_are : {d : ℕ} → d ≡ length (take c z) → DecidedAre s (asked B t ids) d
    decided_are {d} e q x = e ∙ mined_long ∙ G.all ∙ ap length mined_is ∙ sym (decided_number C w.q) ∙ ap (λ z. length (decisions C z)) (one_queue s w.is x)

  -- ---- the whole area
  module _ {gone : List ℕ} (G : GoneAre s (asked B t ids) gone) where
    ids_are : map (id_at s) gone ≡ to_release C w.q
    ids_are = G.are w.q w.is

    pub many_gone : length gone ≡ length (to_release C w.q)
    many_gone = sym (map_length (id_at s) gone) ∙ ap length ids_are

    pub gone_count : length gone ≤ a.open.head.count
    unfolding to_release touched_recs released
    gone_count =
        let st = w.read.store in
        let u : length (to_release C w.q) ≤ length (map f w.q.recs) = (released_all (λ i. Unit {0}) C w.q.limits (map f w.q.recs) (all_every _ (λ r. tt) (map f w.q.recs))).1 in
        let v = map_length f w.q.recs in
        omega (arith, many_gone, st.count)

    placed : PlacedOnce (to_release C w.q) (map f w.q.recs)
    unfolding to_release touched_recs
    placed = releases_placed w.q.limits B.height.0 B.window w.q.recs f (to_release C w.q) (keeps w.q.recs) (fit w.read).sound.rising refl

    none_gone : (x : List Id) → length x ≡ 0 → x ≡ []
    none_gone [] e = refl
    none_gone (i ∷ x) e = absurd (let y : ⊥ = omega arith in y)

    kept_is : {fl : ℕ} → FloorFor s a (length gone) fl → kept_in s a t vs gone fl ≡ trimmed w.q.limits.T (to_release C w.q) (map (release_one w.q.counter (to_release C w.q)) (touched_recs C w.q))
    unfolding kept_l kept_of touched_recs
    kept_is {fl} F =
        let st = w.read.store in
        let T : w.q.limits.T ≡ a.open.head.limits.t = head_t st.head in
        let N : w.q.counter ≡ a.open.head.counter.0 = st.head.counter in
        three (sym N) ids_are next_is
        ∙ sym (trim_is w.q.limits.T w.q.counter fl w.q.recs f (to_release C w.q) (keeps w.q.recs) placed
        (λ e. F.0 (many_gone ∙ ap length e))
        (λ n. floors_to fl (sym N) many_gone (sym T) st.list (F.1 (λ z. n (none_gone (to_release C w.q) (sym many_gone ∙ z))))))
      where
        three : {c c' : ℕ} {x x' : List Id} {l l' : List Rec} → c ≡ c' → x ≡ x' → l ≡ l' → filter (λ y. holder? y || leb fl y.finish) (map (release_one c x) l) ≡ filter (λ y. holder? y || leb fl y.finish) (map (release_one c' x') l')
        three e f g = cc

    -- the rows for it
    pub whole_plan : {fl kept : ℕ} {rows : List ℕ} → FloorFor s a (length gone) fl → Planned s a t vs rows (kept_in s a t vs gone fl) kept → WholePlan s a C t vs rows kept
    unfolding whole_q committed
    whole_plan {fl} F P q e = rw (← (one_queue s w.is e)) (record { fit = P.fit; are = P.are ∙ kept_is F; count = P.count ∙ ap length (kept_is F); few = P.few })

    module _ (room : a.open.head.counter.0 + length gone < 18446744073709551616) where
      fits_top : ltb top (w.q.counter + length (to_release C w.q)) ≡ false
      fits_top = let N : w.q.counter ≡ a.open.head.counter.0 = w.read.store.head.counter in le-ltb top (w.q.counter + length (to_release C w.q)) (omega (arith, many_gone))

      module _ (ch : (any_touched C w.q || not (is_empty? (to_release C w.q))) ≡ true) where
        whole_done : reconcile C w.q ≡ done Whole (whole_q C w.q) (true, to_release C w.q)
        unfolding reconcile whole_q to_release touched_recs any_touched
        whole_done = rw (fits_top, ch)

        whole_fit : Fit (whole_q C w.q)
        whole_fit = (leaves_kept w.q (whole_q C w.q) (reconcile C w.q) Whole (true, to_release C w.q) (reconcile_leaves C w.q (fit w.read) L.ok) whole_done).fit

        abbrev pub marks_w : ℕ → Marks
        marks_w kept = record { persisted = B.height; revision = (a.open.head.revision + 1) % 2 ^ 64; cursor = B.height; tip = code.Some B.tip; counter = record { 0 = a.open.head.counter.0 + length gone }; count = kept }

        module _ {rows : List ℕ} {kept : ℕ} (P : WholePlan s a C t vs rows kept) where
          whole_is : planned_q s a (marks_w kept) t vs rows ≡ whole_q C w.q
          unfolding whole_q committed
          whole_is =
              let st = w.read.store in
              same_queue refl (sym (the_limits w.read)) (ap (λ v. (v + 1) % 2 ^ 64) (sym st.head.revision)) refl refl
              (ap (λ v. v + length gone) (sym st.head.counter) ∙ ap (λ v. w.q.counter + v) many_gone) (P w.q w.is).are

          whole_need : length (queue_c.enc (whole_q C w.q)) ≤ need w.q.limits
          unfolding whole_q committed
          whole_need = fits_need (whole_q C w.q) (fit_sound _ whole_fit) (fit_ok _ whole_fit)

          pub whole_for : PlanFor s a (marks_w kept) t vs rows
          whole_for =
              let p = P w.q w.is in
              let h = w.read.store.head in
              record {
                area = w;
                bytes = L.small;
                fit = p.fit;
                count = p.count ∙ sym (ap length p.are);
                small = record { persisted = L.ok.height; revision = mod-lt _ (omega arith); cursor = L.ok.height; counter = room; count = omega (arith, p.few, h.count_small) };
                fits = let u = ap (λ v. length (queue_c.enc v)) whole_is in omega (arith, whole_need, w.read.need);
              }

          pub whole_put : (d : Bytes) {d' : Bytes} {q' : Queue} → read_area s ≡ some q' → d' ≡ over (area_bytes (planned_q s a (marks_w kept) t vs rows)) d → d' ≡ over (area_bytes (whole_q C q')) d
          whole_put d x h = h ∙ ap (λ v. over (area_bytes v) d) (whole_is ∙ ap (whole_q C) (one_queue s w.is x))

      -- ---- the answer
      still_done : (any_touched C w.q || not (is_empty? (to_release C w.q))) ≡ false → reconcile C w.q ≡ done (cursor_kind w.q.persisted B.height.0) (cursor_to B.height.0 B.tip w.q) (false, [])
      unfolding reconcile to_release touched_recs any_touched
      still_done ch = rw (fits_top, ch) (cases (leb (min (w.q.persisted + 32) top_height) B.height.0) (λ b. rw b) (λ b. rw b))

      gone_long : length (concat (map (id_at s) gone)) ≡ 32 * length gone
      gone_long = ids_size s gone G.placed

      answer_long : (b : Bool) → length (released_bytes (b, to_release C w.q)) ≡ 5 + 32 * length gone
      unfolding released_bytes ids_bytes
      answer_long b =
          let e = ap (λ x. length (concat x)) ids_are in
          let u = length-append (codec.be 4 (length (to_release C w.q))) (concat (to_release C w.q)) in
          let v = codec.be_length 4 (length (to_release C w.q)) in
          let z = gone_long in omega arith

      none_long : length (released_bytes (false, [])) ≡ 5
      unfolding released_bytes ids_bytes
      none_long = refl

      answer_is : (b : Bool) → gone_bytes s b gone ≡ released_bytes (b, to_release C w.q)
      unfolding gone_bytes released_bytes ids_bytes
      answer_is b = ap (λ (y : Bytes). one b ∷ y) (join_same (be_same 4 (length gone) (let z = G.few in omega arith) ∙ ap (codec.be 4) many_gone) (ap concat ids_are))

      no_ids : (any_touched C w.q || not (is_empty? (to_release C w.q))) ≡ false → length gone ≡ 0
      no_ids ch = let z = (or_false (any_touched C w.q) (not (is_empty? (to_release C w.q))) ch).1 in let y = ltb-false 0 (length gone) (sym (some_is (to_release C w.q) many_gone) ∙ z) in omega arith

      pub gone_4 : (next out : Bytes) → length out < 5 + 32 * length gone → ReconcileTold s C (outcome (Refused 4) next out) next out
      gone_4 next out h q e = cases (any_touched C w.q || not (is_empty? (to_release C w.q)))
          (λ c. rw (← (one_queue s w.is e), whole_done c, lt-ltb (length out) (length (released_bytes (true, to_release C w.q))) (omega (arith, answer_long true))))
          (λ c. rw (← (one_queue s w.is e), still_done c, lt-ltb (length out) (length (released_bytes (false, []))) (omega (arith, none_long, no_ids c))))

      module _ (next out : Bytes) (h : 5 + 32 * length gone ≤ length out) {b : Bool} (ch : b ≡ (any_touched C w.q || not (is_empty? (to_release C w.q)))) {out' : Bytes} {r : ℕ} (p : Put out 0 (gone_bytes s b gone) (5 + 32 * length gone) r out') where
        pub gone_102 : {next' : Bytes} → b ≡ true → WholeTo s C next next' → ReconcileTold s C (outcome (Done Whole) next' out') next out
        gone_102 {next'} t x q e =
            let c = sym ch ∙ t in
            let z : out' ≡ over (released_bytes (true, to_release C w.q)) out = p.is ∙ ap (splice out 0) (ap (λ v. gone_bytes s v gone) t ∙ answer_is true) ∙ sym (over_splice out (released_bytes (true, to_release C w.q)) (omega (arith, answer_long true))) in
            rw (← (one_queue s w.is e), whole_done c, le-ltb (length out) (length (released_bytes (true, to_release C w.q))) (omega (arith, answer_long true)), z, x w.q w.is)

        pub gone_10x : {next' : Bytes} {u : Answer} → b ≡ false → CursorTold s B.height.0 B.tip u next next' → ReconcileTold s C (outcome u next' out') next out
        gone_10x {next'} {u} t x q e =
            let c = sym ch ∙ t in
            let y = x w.q w.is in
            let N : to_release C w.q ≡ [] = none_gone (to_release C w.q) (sym many_gone ∙ no_ids c) in
            let z : out' ≡ over (released_bytes (false, [])) out = p.is ∙ ap (splice out 0) (ap (λ v. gone_bytes s v gone) t ∙ answer_is false ∙ ap (λ l. released_bytes (false, l)) N) ∙ sym (over_splice out (released_bytes (false, [])) (omega (arith, none_long, no_ids c))) in
            rw (← (one_queue s w.is e), still_done c, le-ltb (length out) (length (released_bytes (false, []))) (omega (arith, none_long, no_ids c)), z, y.0, y.1)
            (cases (leb (min (w.q.persisted + 32) top_height) B.height.0) (λ k. rw k) (λ k. rw k))

    pub gone_15 : (next out : Bytes) → 18446744073709551615 - a.open.head.counter.0 < length gone → ReconcileTold s C (outcome (Refused 15) next out) next out
    unfolding reconcile to_release touched_recs
    gone_15 next out h q e =
        let N : w.q.counter ≡ a.open.head.counter.0 = w.read.store.head.counter in
        let z : ltb top (w.q.counter + length (to_release C w.q)) ≡ true = lt-ltb top (w.q.counter + length (to_release C w.q)) (omega (arith, many_gone, w.read.store.head.counter_small)) in
        rw (← (one_queue s w.is e), z)

    pub changed_is : {b c : Bool} → c ≡ any? changed? vs → b ≡ (c || ltb 0 (length gone)) → ChangedIs s C b
    unfolding any_touched touch own_ids
    changed_is e f q x = f ∙ or_same (e ∙ judged_any t B.caught (own_ids (ids_at ids B.available) (list_at (form_c false rec_c) a.open.head.count s a.open.start)) (applied_in t B.entries) (list_at (form_c false rec_c) a.open.head.count s a.open.start) vs J.all ∙ ap (λ l. any? (changes? B.caught (own_ids (ids_at ids B.available) l) (applied_in t B.entries)) l) w.read.store.list) (sym (some_is (to_release C w.q) many_gone)) ∙ ap (λ v. any_touched C v || not (is_empty? (to_release C v))) (one_queue s w.is x)

-- ---- the floor, a flag, and the answer's bytes
pub floor_none : (s : Bytes) (a : Area) (g : ℕ) → g ≡ 0 → FloorFor s a g 0
floor_none s a g e = (λ _. refl, λ n. absurd (n e))

pub floor_some : (s : Bytes) (a : Area) (g : ℕ) {f : ℕ} → (g ≡ 0 → ⊥) → ((sum Tombstones (list_at (form_c false rec_c) a.open.head.count s a.open.start) + g ≤ a.open.head.limits.t) × (f ≡ 0)) ⊎ ((x : ℕ) → ltb (above a.open.head.counter.0 g (list_at (form_c false rec_c) a.open.head.count s a.open.start) x) a.open.head.limits.t ≡ leb f x) → FloorFor s a g f
floor_some s a g n x = (λ e. absurd (n e), λ _. x)

pub flag_put : {d d' : Bytes} {at r n : ℕ} (b : Bool) → n ≡ one b → Put d at (n ∷ []) 1 r d' → Put d at (one b ∷ []) 1 r d'
flag_put {d} {d'} {at} {r} b e p = recast p (ap (λ k. k ∷ []) e) refl refl

pub gone_put : (s : Bytes) (b : Bool) (gone : List ℕ) {d d₁ d₂ d₃ : Bytes} {x y r : ℕ} → Put d 0 (one b ∷ []) 1 x d₁ → Put d₁ x (be_last 4 (length gone)) 4 y d₂ → Put d₂ y (concat (map (id_at s) gone)) (32 * length gone) r d₃ → Put d 0 (gone_bytes s b gone) (5 + 32 * length gone) r d₃
unfolding gone_bytes
gone_put s b gone p q u = recast (then (then p q) u) refl (omega arith) refl

-- ---- the cursor
pub far_low : (p h : ℕ) {b : Bool} → p + 32 ≤ 4294967295 → b ≡ leb (p + 32) h → b ≡ leb (min (p + 32) top_height) h
far_low p h k e = e ∙ ap (λ n. leb n h) (sym (min-eq_left k))

pub far_top : (p h : ℕ) {b : Bool} → 4294967295 < p + 32 → b ≡ leb 4294967295 h → b ≡ leb (min (p + 32) top_height) h
far_top p h k e = e ∙ ap (λ n. leb n h) (sym (min-eq_right (let z : 4294967295 ≤ p + 32 = omega arith in z)))

module _ {s : Bytes} {a : Area} (w : AreaIn s a) (height : Height) (tip : Id) where
  pub move_to : (p : Height) → p.0 < 4294967296 → height.0 < 4294967296 → id_c.ok tip → MovedFrom s a p height (code.Some tip)
  unfolding moved opt_c
  move_to p i j o =
      let g = moved_fit p.0 height.0 (some tip) w.q i j o (fit w.read) in
      record { q = w.q; is = w.is; read = w.read; fits = lim (fits_need _ (fit_sound _ g) (fit_ok _ g)); small = i; small_cursor = j }
    where
      lim : length (queue_c.enc (moved p.0 height.0 (some tip) w.q)) ≤ need (moved p.0 height.0 (some tip) w.q).limits → length (queue_c.enc (moved p.0 height.0 (some tip) w.q)) ≤ need w.q.limits
      lim x = x

  pub low_persisted : a.persisted.0 < 4294967296
  low_persisted = let e = w.read.persisted in let z = (fit w.read).persisted in omega arith

  module _ {b : Bool} (e : b ≡ leb (min (a.persisted.0 + 32) top_height) height.0) where
    far_is : leb (min (w.q.persisted + 32) top_height) height.0 ≡ b
    far_is = ap (λ n. leb (min (n + 32) top_height) height.0) w.read.persisted ∙ sym e

    pub cursor_far : (next : Bytes) {next' : Bytes} → b ≡ true → MovedTo s a height height (code.Some tip) next next' → CursorTold s height.0 tip (Done Cursor) next next'
    cursor_far next t x q f = rw (← (one_queue s w.is f), far_is ∙ t) (refl, x w.q w.is)

    pub cursor_near : (next : Bytes) {next' : Bytes} → b ≡ false → MovedTo s a a.persisted height (code.Some tip) next next' → CursorTold s height.0 tip (Done Memory) next next'
    cursor_near next t x q f = rw (← (one_queue s w.is f), far_is ∙ t) (refl, x w.q w.is ∙ ap (λ n. over (area_bytes (moved n height.0 (some tip) w.q)) next) (sym w.read.persisted))

-- ---- the call
pub reconcile_3 : (cur next out : Bytes) (g : ReconcileArgs) → read_area cur ≡ none → outcome (Refused 3) next out ≡ reconcile_of cur next out g
unfolding reconcile_of
reconcile_3 cur next out g e = rw e

module _ (cur next out : Bytes) {a : Area} (i : AreaIn cur a) (height : ℕ) (tip t : Bytes) (flag : ℕ) (ids : Bytes) (window : ℕ) where
  abbrev Given : ReconcileArgs
  Given = reconcile_args height tip t flag ids window

  pub reconcile_2 : length next < a.need → outcome (Refused 2) next out ≡ reconcile_of cur next out Given
  unfolding reconcile_of
  reconcile_2 h = rw (i.is, lt-ltb (length next) (need i.q.limits) (omega (arith, i.read.need)))

  module _ (h : a.need ≤ length next) {r : Bool} (A : ReconcileAsked tip flag t ids r) where
    enough : ltb (length next) (need i.q.limits) ≡ false
    enough = le-ltb (length next) (need i.q.limits) (omega (arith, i.read.need))

    shape_is : reconcile_shape? Given ≡ r
    shape_is = sym A.is

    pub reconcile_5 : r ≡ false → outcome (Refused 5) next out ≡ reconcile_of cur next out Given
    unfolding reconcile_of
    reconcile_5 n = rw (i.is, enough, shape_is ∙ n)

    module _ (n : r ≡ true) {j : Id} (z : j ≡ part 32 (view false tip 0) 0) where
      tip_key : j ≡ tip
      tip_key = key (A.good n).long z

      abbrev block : Block
      block = record { height = record { 0 = height }; tip = j; entries = length t / 68; caught = eqb flag 1; available = length ids / 32; window = window }

      asked_is : asked block t ids ≡ reconciliation Given
      asked_is = three tip_key (A.good n).applied (A.good n).available
        where
          three : {u u' : Id} {x x' : List Applied} {y y' : List Id} → u ≡ u' → x ≡ x' → y ≡ y' → ◌≡◌ {A = Reconciling} (record { height = height; tip = u; applied = x; caught_up = eqb flag 1; available = y; window = window }) (record { height = height; tip = u'; applied = x'; caught_up = eqb flag 1; available = y'; window = window })
          three e f g = cc

      pub lent_to : height < 4294967296 → LentTo block t ids
      lent_to l = record {
        ok = rw asked_is (reconciling_ok Given (record { height = l; tip = A.small_tip; applied = A.small_applied }) (shape_is ∙ n));
        entries = (A.good n).entries;
        rise = (A.good n).rise;
        small = A.small_applied;
        long = ap length tip_key ∙ (A.good n).long;
      }

      pub reconcile_rest : {o : Outcome} → ReconcileTold cur (asked block t ids) o next out → o ≡ reconcile_of cur next out Given
      unfolding reconcile_of
      reconcile_rest {o} c = let v = c i.q i.is ∙ ap (λ y. told released_bytes next out (reconcile y i.q)) asked_is in rw (i.is, enough, shape_is ∙ n) v

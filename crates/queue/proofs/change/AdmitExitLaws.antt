use Rattle.queue.specs.check.RulesAs.{height_due, time_due}
-- Admission, exit by exit. Assumes nothing.
use Rattle.std.specs.Prelude as code
use Rattle.std.specs.Prelude.{◌≡◌, refl, Bool, true, false, cond, ◌&&◌, ◌||◌, List, [], ◌∷◌, ℕ, ◌+◌, ◌/◌, ◌%◌, ◌^◌, ◌≤◌, ◌<◌, ltb, leb, eqb, length}
use Rattle.std.proofs.Common.{ap, sym, ◌∙◌, arith, lt-ltb, le-ltb, ltb-false, leb-true, eq-eqb, ne_eqb, eqb-true}
use Rattle.std.proofs.Math.Option.{Option, none, some}
use Rattle.queue.proofs.check.AreaLaws.{fit}
use Rattle.queue.proofs.check.ReadsLaws.{nobody}
use Rattle.queue.specs.Basics.{and_same}
use Rattle.queue.specs.Codec.{cases, opt_c}
use Rattle.queue.specs.bytes.PutAs.{Put, splice}
use Rattle.queue.specs.layout.FrameCodec.{Head, id_c, rec_c}
use Rattle.queue.specs.bytes.Parts.{part}
use Rattle.queue.specs.bytes.ViewAs.{view}
use Rattle.queue.specs.bytes.ReaderAs.{list_at}
use Rattle.queue.specs.bytes.ReaderLaws as readlaws
use Rattle.queue.specs.layout.FormsCodec.{form_c, queue_c, head_for, store_of}
use Rattle.queue.specs.layout.FrameAs.{HeadAs, facts_of, head_k_law}
use Rattle.queue.specs.Areas.{read_area}
use Rattle.queue.specs.theorems.Bound.{fits_need}
use Rattle.queue.specs.Lists.{and_true}
use Rattle.queue.specs.bytes.OrderLaws.{or_false, or_true}
use Rattle.queue.specs.theorems.SoundParts.{Fit, fit_sound, fit_ok}
use Rattle.queue.specs.theorems.CallsKeeps.{leaves_kept}
use Rattle.queue.specs.theorems.AdmitKeeps.{Admissible, new_leaves}
use Rattle.queue.specs.theorems.Arguments.{Small, AdmitLent, admission_ok}
use Rattle.queue.specs.check.AreaAs.{AreaIn}
use Rattle.queue.specs.layout.HeadAs.{tip_in}
use Rattle.queue.specs.change.WriteAs.{TipIs}
use Rattle.queue.specs.read.ReadingAs.{Here, EntryIn, entry_at, entry_len_value}
use Rattle.queue.specs.read.FindAs.{SpotIn}
use Rattle.queue.specs.change.ReopenAs.{IdsIn, ids_at}
use Rattle.queue.specs.check.ScanAs.{unread?}
use Rattle.queue.specs.change.ClashAs.{clashes}
use Rattle.queue.specs.change.AdmitAs.{flag_of, time_of, height_of, given_as, raw, asked_as, args_of, new_of, TermsFit, HeldFit, with_r, WithFrom, WithTo, room_of, RoomIs, free_of, FreeIs, entry_new_len_value, NumbersFit, asked_of, AskedIs, AskedIn, LentIds, ReadIs, CrossIs, TipFor, KnownAt, OldTold, NewTold, FoundTold, ListsAre, FlagsRight}
use Rattle.queue.specs.paper.Records.{Bytes, Id, Rec, Queue}
use Rattle.queue.specs.paper.Lists.{find, is_empty?, all?, maybe}
use Rattle.queue.specs.paper.Sound.{need, pending?, mined?, label_len, used?, clash?, read?, crossed?, caller_right?}
use Rattle.queue.specs.paper.Area.{area_bytes, over}
use Rattle.queue.specs.paper.Changing.{Out, refused, done, named?, reached?, Admission, new_rec, committed, pendings, pending_bytes, pendings_of, share_of, admit_new, admit}
use Rattle.queue.specs.Checked.{Outcome, outcome, told, admit_shape?, admit_of}
use Rattle.queue.specs.paper.Calls.{id?, whole?, items, flag?, given, given_id?, AdmitArgs, admission, over_k?, entry_bytes}
use Rattle.queue.specs.declared.Kind.TheVariants.{Nothing, Whole}
use Rattle.queue.specs.paper.Answer.{Answer, Refused, Done}
use Rattle.queue.specs.declared.change.admit.Offered.{Offered}
use Rattle.queue.specs.declared.change.admit.Tip.{Tip}
use Rattle.queue.specs.declared.change.admit.Asked.{Asked}
use Rattle.queue.specs.declared.layout.frame.Time.{Time}
use Rattle.queue.specs.declared.layout.frame.Height.{Height}
use Rattle.queue.specs.declared.layout.frame.Head as code_head
use Rattle.queue.specs.declared.layout.frame.Seen.{Seen}
use Rattle.queue.specs.declared.check.area.Area.{Area}
use Rattle.queue.specs.read.FindAs.{SpotNumbers}
use Rattle.queue.proofs.layout.TurnLaws.{FoundRec}
use Rattle.queue.proofs.bytes.PutLaws.{over_splice}
use Rattle.queue.proofs.change.WriteLaws.{one_queue}
use Rattle.queue.proofs.read.ReadingLaws.{key, met, entry_in_law, entry_is, entry_size}
use Rattle.queue.proofs.change.ReopenLaws.{ids_in_law, ids_are}
use Rattle.queue.proofs.change.CallsLaws.{small_all}
use Rattle.queue.proofs.read.FindLaws.{spot_none}
use Rattle.queue.proofs.change.AdmitLaws.{entry_long}

-- ---- the cursor of the next queue
pub tip_own : (s : Bytes) (h : code_head.Head) (r : code.Option Id) (x : Offered) (tip : Bytes) → 0 < h.count → TipIs s h r → TipFor s h x tip (record { height = h.cursor; id = r })
tip_own s h r x tip k t z w o = rw (lt-ltb 0 h.count k) (sym w.cursor, t z w o)

pub tip_asked : (s : Bytes) (h : code_head.Head) {i : Id} (x : Offered) (tip : Bytes) → h.count ≤ 0 → x.tipflag ≡ 1 → length tip ≡ 32 → i ≡ part 32 (view false tip 0) 0 → TipFor s h x tip (record { height = x.tipheight; id = code.Some i })
tip_asked s h {i} x tip k e l f z w o = rw (le-ltb 0 h.count k, eq-eqb x.tipflag 1 e) (refl, ap some (key l f))

pub tip_none : (s : Bytes) (h : code_head.Head) (x : Offered) (tip : Bytes) → h.count ≤ 0 → (x.tipflag ≡ 1 → ⊥) → (z : Head) → HeadAs (view false s 4) h z → (opt_c id_c).ok z.tip
    → (x.tipheight.0 ≡ cond (ltb 0 h.count) z.cursor x.tipheight.0) × (none ≡ cond (ltb 0 h.count) z.tip (given x.tipflag tip))
tip_none s h x tip k e z w o = rw (le-ltb 0 h.count k, ne_eqb x.tipflag 1 e) (refl, refl)

-- "If there were no records, the cursor becomes the given tip."
abbrev cursor_after : Admission → Queue → List Rec → ℕ
cursor_after a q l = cond (is_empty? l) a.tip_height q.cursor

abbrev tip_after : Admission → Queue → List Rec → Option Id
tip_after a q l = cond (is_empty? l) a.tip q.tip

cursor_is : (a : Admission) (q : Queue) (l : List Rec) → cursor_after a q l ≡ cond (ltb 0 (length l)) q.cursor a.tip_height
cursor_is a q [] = refl
cursor_is a q (r ∷ l) = rw (lt-ltb 0 (length (r ∷ l)) (omega arith))

tip_is : (a : Admission) (q : Queue) (l : List Rec) → tip_after a q l ≡ cond (ltb 0 (length l)) q.tip a.tip
tip_is a q [] = refl
tip_is a q (r ∷ l) = rw (lt-ltb 0 (length (r ∷ l)) (omega arith))

-- ---- room
room_split : (b d c : Bool) → ◌≡◌ {A = ℕ} (cond b 10 (cond d 18 (cond c 11 0))) 0 → (b ≡ false) × (d ≡ false) × (c ≡ false)
room_split true d c e = absurd (let y : ⊥ = omega arith in y)
room_split false true c e = absurd (let y : ⊥ = omega arith in y)
room_split false false true e = absurd (let y : ⊥ = omega arith in y)
room_split false false false e = (refl, refl, refl)

room_more : (b d c : Bool) (n m : ℕ) → n ≡ cond b 10 (cond d 18 (cond c 11 0)) → (n ≡ 0 → ⊥) → n ≡ cond b 10 (cond d 18 (cond c 11 m))
room_more true d c n m e h = e
room_more false true c n m e h = e
room_more false false true n m e h = e
room_more false false false n m e h = absurd (h e)

free_split : (b d c f g : Bool) → ◌≡◌ {A = ℕ} (cond b 10 (cond d 18 (cond c 11 (cond f 12 (cond g 20 0))))) 0 → ((b ≡ false) × (d ≡ false) × (c ≡ false)) × (f ≡ false) × (g ≡ false)
free_split true d c f g e = absurd (let y : ⊥ = omega arith in y)
free_split false true c f g e = absurd (let y : ⊥ = omega arith in y)
free_split false false true f g e = absurd (let y : ⊥ = omega arith in y)
free_split false false false true g e = absurd (let y : ⊥ = omega arith in y)
free_split false false false false true e = absurd (let y : ⊥ = omega arith in y)
free_split false false false false false e = ((refl, refl, refl), refl, refl)

free_full : {A : Type 0} (b d c f g : Bool) (n : ℕ) (o : Out A) → n ≡ cond b 10 (cond d 18 (cond c 11 (cond f 12 (cond g 20 0)))) → (n ≡ 0 → ⊥)
    → cond b (refused 10) (cond d (refused 18) (cond c (refused 11) (cond f (refused 12) (cond g (refused 20) o)))) ≡ refused n
free_full true d c f g n o e h = ap refused (sym e)
free_full false true c f g n o e h = ap refused (sym e)
free_full false false true f g n o e h = ap refused (sym e)
free_full false false false true g n o e h = ap refused (sym e)
free_full false false false false true n o e h = ap refused (sym e)
free_full false false false false false n o e h = absurd (h e)

-- ---- lent ids, and the ids of the records
pub ids_lent : {ids : Bytes} → LentIds ids → IdsIn ids (length ids / 32) × (length ids < 4294967296)
ids_lent {ids} l = let f = l.few in (ids_in_law ids (length ids / 32) l.small refl l.whole, omega arith)

met_is : {s : Bytes} {a : Area} (w : AreaIn s a) {ids : Bytes} (l : LentIds ids) (read : Bool) {r : Bool} → r ≡ clashes read (ids_at ids (length ids / 32)) (list_at (form_c false rec_c) a.open.head.count s a.open.start) → r ≡ clashes read (items 32 ids) w.q.recs
met_is {s} {a} w {ids} l read c = c ∙ ap (λ z. clashes read z (list_at (form_c false rec_c) a.open.head.count s a.open.start)) (ids_are ids (length ids / 32) l.small refl l.whole) ∙ ap (clashes read (items 32 ids)) w.read.store.list

-- 20: nobody reads, no id is read, or both are looked up

module _ {s : Bytes} {a : Area} (w : AreaIn s a) (ins : Bytes) where
  pub none_reads : a.open.sums.unread ≡ true → ReadIs s ins false
  none_reads t q e =
      let u : all? unread? w.q.recs ≡ true = sym (w.read.store.sums.unread ∙ ap (all? unread?) w.read.store.list) ∙ t in
      rw (← (one_queue s w.is e)) (sym (nobody (items 32 ins) w.q.recs u))

  pub reads_by : (i : LentIds ins) {r : Bool} → r ≡ clashes true (ids_at ins (length ins / 32)) (list_at (form_c false rec_c) a.open.head.count s a.open.start) → ReadIs s ins r
  unfolding read? clashes
  reads_by i c q e = rw (← (one_queue s w.is e)) (met_is w i true c)

module _ (s ins reads : Bytes) {b : Bool} (u : ReadIs s ins b) where
  pub cross_yes : b ≡ true → CrossIs s ins reads true
  unfolding crossed?
  cross_yes t q e = rw (← (u q e), t)

  pub cross_none : b ≡ false → length reads / 32 ≡ 0 → CrossIs s ins reads false
  unfolding crossed? clash? items
  cross_none t z q e = rw (← (u q e), t, z)

  pub cross_by : {a : Area} (w : AreaIn s a) (d : LentIds reads) {r : Bool} → b ≡ false → r ≡ clashes false (ids_at reads (length reads / 32)) (list_at (form_c false rec_c) a.open.head.count s a.open.start) → CrossIs s ins reads r
  unfolding crossed? clash? used? clashes
  cross_by w d t c q e = rw (← (u q e), t, ← (one_queue s w.is e)) (met_is w d false c)

-- ---- 10, 18, 11, 12 or 20, or none of them
pub free_room : (s ins reads : Bytes) (c n : ℕ) {r : ℕ} → RoomIs s c n r → (r ≡ 0 → ⊥) → FreeIs s c n ins reads r
unfolding room_of free_of
free_room s ins reads c n {r} m z q e = room_more (leb q.limits.P (pendings q.recs)) (leb (share_of c q.limits) (pendings_of c q.recs)) (ltb q.limits.B (pending_bytes q.recs + n)) r _ (m q e) z

module _ {s : Bytes} {a : Area} (w : AreaIn s a) {ins : Bytes} (i : LentIds ins) (reads : Bytes) (c n : ℕ) {r : ℕ} (m : RoomIs s c n r) (z : r ≡ 0)
    {b : Bool} (k : b ≡ clashes false (ids_at ins (length ins / 32)) (list_at (form_c false rec_c) a.open.head.count s a.open.start)) where
  rooms : (leb w.q.limits.P (pendings w.q.recs) ≡ false) × (leb (share_of c w.q.limits) (pendings_of c w.q.recs) ≡ false) × (ltb w.q.limits.B (pending_bytes w.q.recs + n) ≡ false)
  unfolding room_of
  rooms = room_split (leb w.q.limits.P (pendings w.q.recs)) (leb (share_of c w.q.limits) (pendings_of c w.q.recs)) (ltb w.q.limits.B (pending_bytes w.q.recs + n)) (sym (m w.q w.is) ∙ z)

  clash_is : clash? (items 32 ins) w.q.recs ≡ b
  unfolding clash? used? clashes
  clash_is = sym (met_is w i false k)

  pub free_12 : b ≡ true → FreeIs s c n ins reads 12
  unfolding free_of
  free_12 t q e = rw (← (one_queue s w.is e), rooms.0, rooms.1, rooms.2, clash_is ∙ t)

  module _ (t : b ≡ false) {d : Bool} (x : CrossIs s ins reads d) where
    cross_is : crossed? (items 32 ins) (items 32 reads) w.q.recs ≡ d
    cross_is = sym (x w.q w.is)

    pub free_20 : d ≡ true → FreeIs s c n ins reads 20
    unfolding free_of
    free_20 u q e = rw (← (one_queue s w.is e), rooms.0, rooms.1, rooms.2, clash_is ∙ t, cross_is ∙ u)

    pub free_0 : d ≡ false → FreeIs s c n ins reads 0
    unfolding free_of
    free_0 u q e = rw (← (one_queue s w.is e), rooms.0, rooms.1, rooms.2, clash_is ∙ t, cross_is ∙ u)

-- ---- what is lent, and the area
module _ {s : Bytes} {a : Area} (w : AreaIn s a) {x : Offered} {ins outs reads bytes label tip : Bytes} (i : AskedIn x x.id ins outs reads bytes label tip a.open.head.limits.k) where
  abbrev G : AdmitArgs
  G = args_of x x.id ins outs reads bytes label tip

  abbrev R : Rec
  R = new_of x x.id ins outs reads bytes label

  admissible : Admissible w.q.limits.K (admission G)
  admissible = let k : w.q.limits.K ≡ a.open.head.limits.k = head_k_law w.read.store.head in rw k (admission_ok a.open.head.limits.k G i.lent i.shape i.few)

  parts : ((id? x.id ≡ true) × (x.caller ≤ 15)) × (whole? 32 ins ≡ true) × ((whole? 32 outs ≡ true) × (whole? 32 reads ≡ true)) × (given_id? x.tipflag tip ≡ true)
  parts =
      let u = and_true ((id? x.id && caller_right? x.caller) && (whole? 32 ins && (whole? 32 outs && whole? 32 reads))) ((flag? x.timeflag && flag? x.heightflag) && (flag? x.labelflag && given_id? x.tipflag tip)) i.shape in
      let v = and_true (id? x.id && caller_right? x.caller) (whole? 32 ins && (whole? 32 outs && whole? 32 reads)) u.0 in
      let c = and_true (id? x.id) (caller_right? x.caller) v.0 in
      let y = and_true (whole? 32 ins) (whole? 32 outs && whole? 32 reads) v.1 in
      let d = and_true (whole? 32 outs) (whole? 32 reads) y.1 in
      let z = and_true (flag? x.timeflag && flag? x.heightflag) (flag? x.labelflag && given_id? x.tipflag tip) u.1 in
      ((c.0, leb-true x.caller 15 c.1), y.0, (d.0, d.1), (and_true (flag? x.labelflag) (given_id? x.tipflag tip) z.1).1)

  pub id_32 : length x.id ≡ 32
  id_32 = eqb-true (length x.id) 32 parts.0.0

  pub few_callers : x.caller ≤ 15
  few_callers = parts.0.1

  pub tip_32 : x.tipflag ≡ 1 → length tip ≡ 32
  tip_32 e =
      let u = and_true (flag? x.tipflag) (eqb x.tipflag 0 || id? tip) parts.3 in
      or_true (eqb x.tipflag 0) (id? tip) u.1 (λ t. let z = eqb-true x.tipflag 0 t in absurd (let y : ⊥ = omega arith in y)) (λ _ t. eqb-true (length tip) 32 t)

  pub short_label : x.labelflag ≡ 1 → length label ≤ 200
  short_label e = let z : ltb 200 (length label) ≡ false = rw (eq-eqb x.labelflag 1 e) at i.short in ltb-false 200 (length label) z

  pub few_ids : (length ins / 32 ≤ 128) × (length outs / 32 ≤ 128) × (length reads / 32 ≤ 128)
  few_ids =
      let k : w.q.limits.K ≡ a.open.head.limits.k = head_k_law w.read.store.head in
      let f = (fit w.read).sound.range.K-high in
      let u = or_false (ltb a.open.head.limits.k (length ins / 32)) (ltb a.open.head.limits.k (length outs / 32) || ltb a.open.head.limits.k (length reads / 32)) i.few in
      let d = or_false (ltb a.open.head.limits.k (length outs / 32)) (ltb a.open.head.limits.k (length reads / 32)) u.1 in
      let v = ltb-false a.open.head.limits.k (length ins / 32) u.0 in
      let y = ltb-false a.open.head.limits.k (length outs / 32) d.0 in
      let z = ltb-false a.open.head.limits.k (length reads / 32) d.1 in
      (omega arith, omega arith, omega arith)

  pub ins_lent : LentIds ins
  ins_lent = record { small = i.lent.inputs; whole = eqb-true (length ins % 32) 0 parts.1; few = few_ids.0 }

  pub reads_lent : LentIds reads
  reads_lent = record { small = i.lent.reads; whole = eqb-true (length reads % 32) 0 parts.2.1; few = few_ids.2 }

  -- 10, 18, 11, 12 and 20
  pub new_refused : (next out : Bytes) {r : ℕ} → FreeIs s x.caller (length bytes) ins reads r → (r ≡ 0 → ⊥) → NewTold s G (outcome (Refused r) next out) next out
  unfolding free_of
  new_refused next out {r} m n q e = rw (← (one_queue s w.is e), free_full (leb w.q.limits.P (pendings w.q.recs)) (leb (share_of x.caller w.q.limits) (pendings_of x.caller w.q.recs)) (ltb w.q.limits.B (pending_bytes w.q.recs + length bytes)) (clash? (items 32 ins) w.q.recs) (crossed? (items 32 ins) (items 32 reads) w.q.recs) r _ (m w.q w.is) n)

  module _ (m : FreeIs s x.caller (length bytes) ins reads 0) where
    frees : ((leb w.q.limits.P (pendings w.q.recs) ≡ false) × (leb (share_of x.caller w.q.limits) (pendings_of x.caller w.q.recs) ≡ false) × (ltb w.q.limits.B (pending_bytes w.q.recs + length bytes) ≡ false))
        × (clash? (items 32 ins) w.q.recs ≡ false) × (crossed? (items 32 ins) (items 32 reads) w.q.recs ≡ false)
    unfolding free_of
    frees = free_split (leb w.q.limits.P (pendings w.q.recs)) (leb (share_of x.caller w.q.limits) (pendings_of x.caller w.q.recs)) (ltb w.q.limits.B (pending_bytes w.q.recs + length bytes)) (clash? (items 32 ins) w.q.recs) (crossed? (items 32 ins) (items 32 reads) w.q.recs) (sym (m w.q w.is))

    bytes_few : length bytes ≤ 16777216
    bytes_few = let u = ltb-false w.q.limits.B (pending_bytes w.q.recs + length bytes) frees.0.2 in let v = (fit w.read).sound.range.B-high in omega arith

    pub held_fit : HeldFit ins outs reads bytes
    held_fit = let f = few_ids in let b = bytes_few in record {
      whole_ins = eqb-true (length ins % 32) 0 parts.1;
      whole_outs = eqb-true (length outs % 32) 0 parts.2.0;
      whole_reads = eqb-true (length reads % 32) 0 parts.2.1;
      few_ins = omega arith;
      few_outs = omega arith;
      few_reads = omega arith;
      few_bytes = omega arith;
    }

    pub terms_fit : TermsFit x label (length bytes)
    terms_fit = let b = bytes_few in let c = few_callers in record {
      id = id_32;
      caller = omega arith;
      now = i.lent.now;
      time = i.lent.time;
      height = i.lent.height;
      priority = i.lent.priority;
      short = short_label;
      fee = i.lent.fee;
      size = omega arith;
      cost = i.lent.cost;
    }

    long : length (entry_bytes R) ≡ entry_new_len_value x ins reads label
    long = entry_long x x.id ins outs reads bytes label id_32 held_fit

    abbrev Next : Queue
    Next = with_r (cursor_after (admission G) w.q w.q.recs) (tip_after (admission G) w.q w.q.recs) R w.q

    new_is : admit_new (admission G) w.q ≡ done Whole Next R
    unfolding with_r new_of new_rec
    new_is = rw (frees.0.0, frees.0.1, frees.0.2, frees.1, frees.2)

    next_fit : Fit Next
    next_fit = (leaves_kept w.q Next (admit_new (admission G) w.q) Whole R (new_leaves (admission G) w.q (fit w.read) admissible i.short) new_is).fit

    module _ (t : Tip) (T : TipFor s a.open.head x tip t) where
      at_tip : (t.height.0 ≡ cursor_after (admission G) w.q w.q.recs) × (tip_in t.id ≡ tip_after (admission G) w.q w.q.recs)
      at_tip =
          let u = T (head_for (store_of w.q)) w.read.store.head (fit w.read).tip in
          let n : a.open.head.count ≡ length w.q.recs = sym w.read.store.count in (
            u.0 ∙ ap (λ k. cond (ltb 0 k) w.q.cursor x.tipheight.0) n ∙ sym (cursor_is (admission G) w.q w.q.recs),
            u.1 ∙ ap (λ k. cond (ltb 0 k) w.q.tip (given x.tipflag tip)) n ∙ sym (tip_is (admission G) w.q w.q.recs),
          )

      next_is : with_r t.height.0 (tip_in t.id) R w.q ≡ Next
      next_is = two at_tip.0 at_tip.1
        where
          two : {h h' : ℕ} {o o' : Option Id} → h ≡ h' → o ≡ o' → with_r h o R w.q ≡ with_r h' o' R w.q
          two e f = cc

      next_room : length (queue_c.enc Next) ≤ need w.q.limits
      unfolding with_r committed
      next_room = fits_need Next (fit_sound _ next_fit) (fit_ok _ next_fit)

      next_low : cursor_after (admission G) w.q w.q.recs < 256 ^ 4
      unfolding with_r committed
      next_low = next_fit.cursor

      pub with_from : WithFrom s a t.height.0 (tip_in t.id) R
      with_from = record {
        q = w.q;
        is = w.is;
        read = w.read;
        fits = let u = ap (λ v. length (queue_c.enc v)) next_is in let v = next_room in omega arith;
        small = let u = at_tip.0 in let v = next_low in omega arith;
      }

      pub new_102 : (next out : Bytes) {next' out' : Bytes} {r : ℕ} → entry_new_len_value x ins reads label ≤ length out → WithTo s t.height.0 (tip_in t.id) R next next' → Put out 0 (entry_bytes R) (entry_new_len_value x ins reads label) r out'
          → NewTold s G (outcome (Done Whole) next' out') next out
      new_102 next out {next'} {out'} h y p q e =
          let z : out' ≡ over (entry_bytes R) out = p.is ∙ sym (over_splice out (entry_bytes R) (omega (arith, long))) in
          let v : next' ≡ over (area_bytes Next) next = y w.q w.is ∙ ap (λ u. over (area_bytes u) next) next_is in
          rw (← (one_queue s w.is e), new_is, le-ltb (length out) (length (entry_bytes R)) (omega (arith, long)), z, v)

    -- 4
    pub new_4 : (next out : Bytes) → length out < entry_new_len_value x ins reads label → NewTold s G (outcome (Refused 4) next out) next out
    new_4 next out h q e = rw (← (one_queue s w.is e), new_is, lt-ltb (length out) (length (entry_bytes R)) (omega (arith, long)))

-- ---- the old record
module _ (s : Bytes) (at : ℕ) {y : Seen} (x : FoundRec false s at y.size y) where
  pub known_state : {b : Bool} (r : Rec) → Here s at r → b ≡ (pending? y.facts.state || eqb y.facts.state 2) → b ≡ (pending? r.state || mined? r)
  unfolding facts_of
  known_state {b} r h e = e ∙ ap (λ k. pending? k.state || eqb k.state 2) (met h x).0.facts

  pub known_entry : {r : Rec} → Here s at r → EntryIn s at y
  known_entry h = entry_in_law h.0 (met h x)

  pub known_4 : {n : ℕ} (out : Bytes) → n ≡ entry_len_value y → length out < n → OldTold s at (Refused 4) out out
  known_4 {n} out l k r h next q = rw (lt-ltb (length out) (length (entry_bytes r)) (omega (arith, entry_size h.0 (met h x))))

  pub known_100 : {n e : ℕ} (out : Bytes) {out' : Bytes} → n ≡ entry_len_value y → n ≤ length out → Put out 0 (entry_at s at y) (entry_len_value y) e out' → OldTold s at (Done Nothing) out out'
  known_100 out {out'} l k p r h next q =
      let u : out' ≡ over (entry_bytes r) out = p.is ∙ ap (splice out 0) (entry_is h.0 (met h x)) ∙ sym (over_splice out (entry_bytes r) (omega (arith, entry_size h.0 (met h x)))) in
      rw (le-ltb (length out) (length (entry_bytes r)) (omega (arith, entry_size h.0 (met h x))), u)

-- ---- from the id on
module _ {s : Bytes} {a : Area} (w : AreaIn s a) (g : AdmitArgs) {x : SpotNumbers} (p : SpotIn s a g.id x) {b : Bool} (k : KnownAt s x b) (next out : Bytes) where
  old_found : (t : x.found ≡ true) → find (named? g.id) w.q.recs ≡ some (p.here t).0
  old_found t = ap (find (named? g.id)) (sym w.read.store.list) ∙ (p.here t).1

  pub told_old : {r : Answer} {out' : Bytes} → b ≡ true → OldTold s x.at r out out' → FoundTold s g (outcome r next out') next out
  told_old {r} {out'} t h q e =
      let f = k.0 t in let y = p.here f in
      rw (← (one_queue s w.is e), old_found f, sym (k.1 y.0 f y.2) ∙ t) (h y.0 y.2 next w.q)

  pub told_new : {o : Outcome} → b ≡ false → NewTold s g o next out → FoundTold s g o next out
  told_new {o} t h q e = cases x.found
      (λ f. let y = p.here f in rw (← (one_queue s w.is e), old_found f, sym (k.1 y.0 f y.2) ∙ t) (h w.q w.is))
      (λ f. rw (← (one_queue s w.is e), spot_none w p f) (h w.q w.is))

-- ---- 5, 6, 7, 8 and 9
reached_is : (flag d n : ℕ) → reached? (given flag d) n ≡ (eqb flag 1 && leb d n)
reached_is flag d n = cases (eqb flag 1) (λ t. rw t) (λ t. rw t)

pub label_is : (flag : ℕ) (label : Bytes) {b : Bool} → b ≡ (eqb flag 1 && ltb 200 (length label)) → b ≡ ltb 200 (label_len (given flag label))
label_is flag label {b} e = e ∙ cases (eqb flag 1) (λ t. rw t) (λ t. rw t)

pub mod_is : (s : Bytes) {n : ℕ} → n ≡ length (view false s 0) → eqb (n % 32) 0 ≡ whole? 32 s
unfolding view
mod_is s e = ap (λ (m : ℕ). eqb (m % 32) 0) e

pub long_is : (s : Bytes) {n : ℕ} → n ≡ length (view false s 0) → eqb n 32 ≡ id? s
unfolding view
long_is s e = ap (λ (m : ℕ). eqb m 32) e

pub small_of : (s : Bytes) → readlaws.SmallAt (view false s 0) → Small s
unfolding view
small_of s h = small_all s h

pub lists_are : (id ins outs reads : Bytes) (caller : ℕ) {a b c d : ℕ} {r t u v : Bool} → r ≡ (t && u) → t ≡ (eqb a 32 && leb caller 15) → u ≡ (eqb (b % 32) 0 && v) → v ≡ (eqb (c % 32) 0 && eqb (d % 32) 0)
    → a ≡ length (view false id 0) → readlaws.SmallAt (view false id 0) → b ≡ length (view false ins 0) → readlaws.SmallAt (view false ins 0) → c ≡ length (view false outs 0) → readlaws.SmallAt (view false outs 0)
    → d ≡ length (view false reads 0) → readlaws.SmallAt (view false reads 0) → ListsAre id caller ins outs reads r
lists_are id ins outs reads caller e g f h la sa lb sb lc sc ld sd =
    (e ∙ and_same (g ∙ and_same (long_is id la) refl) (f ∙ and_same (mod_is ins lb) (h ∙ and_same (mod_is outs lc) (mod_is reads ld))), (small_of id sa, small_of ins sb, small_of outs sc, small_of reads sd))

pub flags_are : (x : Offered) (bytes label tip : Bytes) {c : ℕ} {r d u v : Bool} → r ≡ (d && u) → d ≡ (leb x.timeflag 1 && leb x.heightflag 1) → u ≡ (leb x.labelflag 1 && v) → v ≡ (leb x.tipflag 1 && (eqb x.tipflag 0 || eqb c 32))
    → readlaws.SmallAt (view false bytes 0) → readlaws.SmallAt (view false label 0) → c ≡ length (view false tip 0) → readlaws.SmallAt (view false tip 0) → FlagsRight x bytes label tip r
flags_are x bytes label tip e f g h sb sl lt st =
    (e ∙ and_same f (g ∙ and_same {a = leb x.labelflag 1} refl (h ∙ and_same {a = leb x.tipflag 1} refl (ap (λ (k : Bool). eqb x.tipflag 0 || k) (long_is tip lt)))), (small_of bytes sb, small_of label sl, small_of tip st))

pub lent_of : {x : Offered} {id ins outs reads bytes label tip : Bytes} {l f : Bool} → NumbersFit x → ListsAre id x.caller ins outs reads l → FlagsRight x bytes label tip f → AdmitLent (args_of x id ins outs reads bytes label tip)
lent_of n l f = record {
  id = l.1.0;
  inputs = l.1.1;
  outputs = l.1.2;
  reads = l.1.3;
  bytes = f.1.0;
  now = n.now;
  time = n.time;
  height = n.height;
  priority = n.priority;
  label = f.1.1;
  fee = n.fee;
  cost = n.cost;
  tip_height = n.tipheight;
  tip = f.1.2;
}

module _ (K : ℕ) (x : Offered) (id ins outs reads bytes label tip : Bytes) (N : NumbersFit x) {l f r : Bool} (L : ListsAre id x.caller ins outs reads l) (F : FlagsRight x bytes label tip f) (e : r ≡ (l && f)) where
  abbrev Given : AdmitArgs
  Given = args_of x id ins outs reads bytes label tip

  shape_is : admit_shape? Given ≡ r
  shape_is = sym (e ∙ and_same L.0 F.0)

  pub asked_5 : r ≡ false → AskedIs K Given 5
  unfolding asked_of
  asked_5 n = (rw (shape_is ∙ n), lent_of N L F)

  module _ (n : r ≡ true) {b : Bool} (k : b ≡ (ltb K (length ins / 32) || (ltb K (length outs / 32) || ltb K (length reads / 32)))) where
    pub asked_6 : b ≡ true → AskedIs K Given 6
    unfolding asked_of
    asked_6 y = (rw (shape_is ∙ n, sym k ∙ y), lent_of N L F)

    module _ (y : b ≡ false) {b7 : Bool} (e7 : b7 ≡ (eqb x.timeflag 1 && leb x.time.0 x.now.0)) where
      is_7 : reached? (given x.timeflag x.time.0) x.now.0 ≡ b7
      is_7 = reached_is x.timeflag x.time.0 x.now.0 ∙ sym e7

      pub asked_7 : b7 ≡ true → AskedIs K Given 7
      unfolding asked_of
      asked_7 t = (rw (shape_is ∙ n, sym k ∙ y, is_7 ∙ t), lent_of N L F)

      module _ (f7 : b7 ≡ false) {b8 : Bool} (e8 : b8 ≡ (eqb x.heightflag 1 && leb x.height.0 x.tipheight.0)) where
        is_8 : reached? (given x.heightflag x.height.0) x.tipheight.0 ≡ b8
        is_8 = reached_is x.heightflag x.height.0 x.tipheight.0 ∙ sym e8

        pub asked_8 : b8 ≡ true → AskedIs K Given 8
        unfolding asked_of
        asked_8 t = (rw (shape_is ∙ n, sym k ∙ y, is_7 ∙ f7, is_8 ∙ t), lent_of N L F)

        module _ (f8 : b8 ≡ false) {b9 : Bool} (e9 : b9 ≡ ltb 200 (label_len (given x.labelflag label))) where
          pub asked_9 : b9 ≡ true → AskedIs K Given 9
          unfolding asked_of
          asked_9 t = (rw (shape_is ∙ n, sym k ∙ y, is_7 ∙ f7, is_8 ∙ f8, sym e9 ∙ t), lent_of N L F)

          pub asked_0 : b9 ≡ false → AskedIs K Given 0
          unfolding asked_of
          asked_0 t = (rw (shape_is ∙ n, sym k ∙ y, is_7 ∙ f7, is_8 ∙ f8, sym e9 ∙ t), lent_of N L F)

-- ---- what they come to
asked_full : (u v b7 b8 b9 : Bool) (r : ℕ) (next out : Bytes) (o : Out Rec) → r ≡ cond u (cond v 6 (cond b7 7 (cond b8 8 (cond b9 9 0)))) 5 → (r ≡ 0 → ⊥)
    → outcome (Refused r) next out ≡ cond u (cond v (outcome (Refused 6) next out) (told entry_bytes next out (cond b7 (refused 7) (cond b8 (refused 8) (cond b9 (refused 9) o))))) (outcome (Refused 5) next out)
asked_full false v b7 b8 b9 r next out o e h = ap (λ k. outcome (Refused k) next out) e
asked_full true true b7 b8 b9 r next out o e h = ap (λ k. outcome (Refused k) next out) e
asked_full true false true b8 b9 r next out o e h = ap (λ k. outcome (Refused k) next out) e
asked_full true false false true b9 r next out o e h = ap (λ k. outcome (Refused k) next out) e
asked_full true false false false true r next out o e h = ap (λ k. outcome (Refused k) next out) e
asked_full true false false false false r next out o e h = absurd (h e)

asked_split : (u v b7 b8 b9 : Bool) → ◌≡◌ {A = ℕ} (cond u (cond v 6 (cond b7 7 (cond b8 8 (cond b9 9 0)))) 5) 0 → ((u ≡ true) × (v ≡ false)) × (b7 ≡ false) × (b8 ≡ false) × (b9 ≡ false)
asked_split false v b7 b8 b9 e = absurd (let y : ⊥ = omega arith in y)
asked_split true true b7 b8 b9 e = absurd (let y : ⊥ = omega arith in y)
asked_split true false true b8 b9 e = absurd (let y : ⊥ = omega arith in y)
asked_split true false false true b9 e = absurd (let y : ⊥ = omega arith in y)
asked_split true false false false true e = absurd (let y : ⊥ = omega arith in y)
asked_split true false false false false e = ((refl, refl), refl, refl, refl)

pub admit_3 : (cur next out : Bytes) (g : AdmitArgs) → read_area cur ≡ none → outcome (Refused 3) next out ≡ admit_of cur next out g
unfolding admit_of
admit_3 cur next out g e = rw e

module _ (cur next out : Bytes) {a : Area} (i : AreaIn cur a) where
  pub admit_2 : (g : AdmitArgs) → length next < a.need → outcome (Refused 2) next out ≡ admit_of cur next out g
  unfolding admit_of
  admit_2 g h = rw (i.is, lt-ltb (length next) (need i.q.limits) (omega (arith, i.read.need)))

  module _ (h : a.need ≤ length next) (x : Offered) {id ins outs reads bytes label tip : Bytes} {r : ℕ} (A : AskedIs a.open.head.limits.k (args_of x id ins outs reads bytes label tip) r) where
    abbrev Args : AdmitArgs
    Args = args_of x id ins outs reads bytes label tip

    enough : ltb (length next) (need i.q.limits) ≡ false
    enough = le-ltb (length next) (need i.q.limits) (omega (arith, i.read.need))

    same_k : i.q.limits.K ≡ a.open.head.limits.k
    same_k = head_k_law i.read.store.head

    pub admit_refused : (r ≡ 0 → ⊥) → outcome (Refused r) next out ≡ admit_of cur next out Args
    unfolding admit_of admit asked_of
    admit_refused n =
        let u = asked_full (admit_shape? Args) (over_k? a.open.head.limits.k Args) (reached? (given x.timeflag x.time.0) x.now.0) (reached? (given x.heightflag x.height.0) x.tipheight.0) (ltb 200 (label_len (given x.labelflag label))) r next out _ A.0 n in
        rw (i.is, enough, same_k) u

    module _ (z : r ≡ 0) where
      passes : ((admit_shape? Args ≡ true) × (over_k? a.open.head.limits.k Args ≡ false)) × (reached? (given x.timeflag x.time.0) x.now.0 ≡ false) × (reached? (given x.heightflag x.height.0) x.tipheight.0 ≡ false) × (ltb 200 (label_len (given x.labelflag label)) ≡ false)
      unfolding asked_of
      passes = asked_split (admit_shape? Args) (over_k? a.open.head.limits.k Args) (reached? (given x.timeflag x.time.0) x.now.0) (reached? (given x.heightflag x.height.0) x.tipheight.0) (ltb 200 (label_len (given x.labelflag label))) (sym A.0 ∙ z)

      id_whole : length id ≡ 32
      id_whole =
          let u = and_true ((id? id && caller_right? x.caller) && (whole? 32 ins && (whole? 32 outs && whole? 32 reads))) ((flag? x.timeflag && flag? x.heightflag) && (flag? x.labelflag && given_id? x.tipflag tip)) passes.0.0 in
          let v = and_true (id? id && caller_right? x.caller) (whole? 32 ins && (whole? 32 outs && whole? 32 reads)) u.0 in
          eqb-true (length id) 32 (and_true (id? id) (caller_right? x.caller) v.0).0

      -- the id as it was read
      asked_at : {j : Id} → j ≡ id → AskedIn x j ins outs reads bytes label tip a.open.head.limits.k
      asked_at e = rw e (record { lent = A.1; shape = passes.0.0; few = passes.0.1; short = passes.3 })

      pub asked_in : (length id ≡ 32 → x.id ≡ id) → AskedIn x x.id ins outs reads bytes label tip a.open.head.limits.k
      asked_in k = asked_at (k id_whole)

      rest_at : {j : Id} {o : Outcome} → j ≡ id → FoundTold cur (args_of x j ins outs reads bytes label tip) o next out → o ≡ admit_of cur next out Args
      unfolding admit_of admit
      rest_at {j} {o} e c =
          let v : FoundTold cur (args_of x id ins outs reads bytes label tip) o next out = rw e at c in
          let w : over_k? i.q.limits.K Args ≡ false = ap (λ k. over_k? k Args) same_k ∙ passes.0.1 in
          rw (i.is, enough, passes.0.0, w, passes.1, passes.2, passes.3) (v i.q i.is)

      pub admit_rest : {o : Outcome} → (length id ≡ 32 → x.id ≡ id) → FoundTold cur (args_of x x.id ins outs reads bytes label tip) o next out → o ≡ admit_of cur next out Args
      admit_rest k c = rest_at (k id_whole) c

pub id_lent : (id : Bytes) {k : Id} → length id ≡ 32 → k ≡ part 32 (view false id 0) 0 → length id ≡ 32 → k ≡ id
id_lent id h e _ = key h e

-- ---- the numbers that count, as options
pub time_asked : (f : ℕ) (t : Time) (n : ℕ) → time_due (given_as f t) n ≡ (eqb f 1 && leb t.0 n)
time_asked f t n = cases (eqb f 1) (λ e. rw e refl) (λ e. rw e refl)

pub height_asked : (f : ℕ) (t : Height) (n : ℕ) → height_due (given_as f t) n ≡ (eqb f 1 && leb t.0 n)
height_asked f t n = cases (eqb f 1) (λ e. rw e refl) (λ e. rw e refl)

time_same : (f : ℕ) (t : Time) → given (flag_of (given_as f t)) (time_of (given_as f t)).0 ≡ given f t.0
time_same f t = cases (eqb f 1) (λ e. rw e refl) (λ e. rw e refl)

height_same : (f : ℕ) (t : Height) → given (flag_of (given_as f t)) (height_of (given_as f t)).0 ≡ given f t.0
height_same f t = cases (eqb f 1) (λ e. rw e refl) (λ e. rw e refl)

flag_right : {A : Type 0} (f : ℕ) (a : A) → flag? (flag_of (given_as f a)) ≡ true
flag_right f a = cases (eqb f 1) (λ e. rw e refl) (λ e. rw e refl)

time_small : (f : ℕ) (t : Time) → t.0 < 256 ^ 8 → (time_of (given_as f t)).0 < 256 ^ 8
time_small f t h = cases (eqb f 1) (λ e. rw e h) (λ e. rw e (omega arith))

height_small : (f : ℕ) (t : Height) → t.0 < 256 ^ 4 → (height_of (given_as f t)).0 < 256 ^ 4
height_small f t h = cases (eqb f 1) (λ e. rw e h) (λ e. rw e (omega arith))

module _ (x : Offered) (id ins outs reads bytes label tip : Bytes) where
  asked_then : (K : ℕ) → AskedIn x id ins outs reads bytes label tip K → AskedIn (raw (asked_as x)) id ins outs reads bytes label tip K
  asked_then K i =
      let u = and_true ((id? id && caller_right? x.caller) && (whole? 32 ins && (whole? 32 outs && whole? 32 reads))) ((flag? x.timeflag && flag? x.heightflag) && (flag? x.labelflag && given_id? x.tipflag tip)) i.shape in
      let z = and_true (flag? x.timeflag && flag? x.heightflag) (flag? x.labelflag && given_id? x.tipflag tip) u.1 in
      record {
        lent = record {
          id = i.lent.id;
          inputs = i.lent.inputs;
          outputs = i.lent.outputs;
          reads = i.lent.reads;
          bytes = i.lent.bytes;
          now = i.lent.now;
          time = time_small x.timeflag x.time i.lent.time;
          height = height_small x.heightflag x.height i.lent.height;
          priority = i.lent.priority;
          label = i.lent.label;
          fee = i.lent.fee;
          cost = i.lent.cost;
          tip_height = i.lent.tip_height;
          tip = i.lent.tip;
        };
        shape = and_same u.0 (and_same (and_same (flag_right x.timeflag x.time) (flag_right x.heightflag x.height)) z.1);
        few = i.few;
        short = i.short;
      }

  admission_same : admission (args_of (raw (asked_as x)) id ins outs reads bytes label tip) ≡ admission (args_of x id ins outs reads bytes label tip)
  admission_same = two (time_same x.timeflag x.time) (height_same x.heightflag x.height)
    where
      with_due : Option ℕ → Option ℕ → Admission
      with_due d h = record { id = id; caller = x.caller; now = x.now.0; due = d; due_height = h; priority = x.priority; label = given x.labelflag label; fee = x.fee; cost = x.cost; held = record { ins = items 32 ins; outs = items 32 outs; reads = items 32 reads; bytes = bytes }; tip_height = x.tipheight.0; tip = given x.tipflag tip }

      two : {d d' h h' : Option ℕ} → d ≡ d' → h ≡ h' → with_due d h ≡ with_due d' h'
      two e f = cc

  found_then : (s : Bytes) (o : Outcome) (next out : Bytes) → FoundTold s (args_of (raw (asked_as x)) id ins outs reads bytes label tip) o next out → FoundTold s (args_of x id ins outs reads bytes label tip) o next out
  found_then s o next out h q e =
      h q e ∙ ap (λ a. told entry_bytes next out (maybe (admit_new a q) (λ r. cond (pending? r.state || mined? r) (done Nothing q r) (admit_new a q)) (find (named? id) q.recs))) admission_same

pub asked_rest : (x : Offered) {y : Asked} {ins outs reads bytes label tip : Bytes} (K : ℕ) → y ≡ asked_as x → AskedIn x x.id ins outs reads bytes label tip K → AskedIn (raw y) y.id ins outs reads bytes label tip K
asked_rest x {y} {ins} {outs} {reads} {bytes} {label} {tip} K e i = rw e (asked_then x x.id ins outs reads bytes label tip K i)

pub found_rest : (x : Offered) (ins outs reads bytes label tip s next out : Bytes) {y : Asked} {o : Outcome} → y ≡ asked_as x → FoundTold s (args_of (raw y) y.id ins outs reads bytes label tip) o next out → FoundTold s (args_of x x.id ins outs reads bytes label tip) o next out
found_rest x ins outs reads bytes label tip s next out {y} {o} e h = found_then x x.id ins outs reads bytes label tip s o next out (rw e at h)

-- What admission leaves.
use Rattle.std.specs.Prelude.{◌≡◌, refl, Bool, true, false, cond, not, ◌&&◌, ◌||◌, List, [], ◌∷◌, ℕ, ◌+◌, ◌^◌, ◌≤◌, ◌<◌, ltb, leb, eqb, length}
use Rattle.std.proofs.Common.{ap, sym, ◌∙◌, arith, ltb-false, leb-false, eqb-true, eq-eqb}
use Rattle.std.proofs.Math.Option.{Option, none, some}
use Rattle.std.proofs.lemmas.Bool.{not-true}
use Rattle.queue.specs.Codec.{cases, All, byte_c, be_c, pair_c, map_c, opt_c, counted_c}
use Rattle.queue.specs.layout.FrameCodec.{id_c, label_c, terms_k, held_k, place_c, body_k}
use Rattle.queue.specs.Lists.{all_map, total_split, sub_all, sub_pairwise, sub_total}
use Rattle.queue.specs.bytes.ReaderLaws.{false_true}
use Rattle.queue.specs.bytes.OrderLaws.{below_trans, below_total, or_true}
use Rattle.queue.specs.bytes.ListLaws.{one_le, and_false, all_every, filter_sub, filter_all, insert_all, insert_total, insert_apart, insert_rising}
use Rattle.queue.specs.theorems.SoundParts.{Right, Before, Distinct, distinct_sym, Apart, apart_sym, apart_from, Sound, Fields, Fit}
use Rattle.queue.specs.theorems.Forget.{core_sound}
use Rattle.queue.specs.theorems.CallsKeeps.{Leaves, Wholly, same_kept, committed_kept, pending_mined}
use Rattle.queue.specs.declared.Kind.{Kind}
use Rattle.queue.specs.declared.Kind.TheVariants.{Nothing, Memory, Whole, Cursor}
use Rattle.queue.specs.paper.Records.{Bytes, Held, Rec, Queue, queued, mined, conflicted, cancelled, expired}
use Rattle.queue.specs.paper.Lists.{is_some, one, total, filter, find, is_empty?, maybe}
use Rattle.queue.specs.paper.Ids.{below?}
use Rattle.queue.specs.paper.Sound.{holder?, pending?, mined?, content, label_len, clash?, crossed?, held_right?}
use Rattle.queue.specs.paper.Changing.{named?, Admission, reached?, new_rec, put, pendings, pending_bytes, pendings_of, share_of, admit_new, admit, Out, refused, done, committed, WithinShare}

abbrev pub LabelBytes : Option Bytes → Type 0
LabelBytes none = Unit {0}
LabelBytes (some l) = All (λ b. b < 256) l

-- arguments that fit their fields, under K
pub record Admissible (K : ℕ) (a : Admission) : Type 0 where
  pub id : id_c.ok a.id
  pub caller : a.caller ≤ 15
  pub now : a.now < 256 ^ 8
  pub due : (opt_c (be_c 8)).ok a.due
  pub due_height : (opt_c (be_c 4)).ok a.due_height
  pub priority : a.priority < 256 ^ 8
  pub label : LabelBytes a.label
  pub fee : a.fee < 256 ^ 8
  pub cost : a.cost < 256 ^ 8
  pub ins : All id_c.ok a.held.ins
  pub outs : All id_c.ok a.held.outs
  pub reads : All id_c.ok a.held.reads
  pub bytes : All (λ b. b < 256) a.held.bytes
  pub few_ins : length a.held.ins ≤ K
  pub few_outs : length a.held.outs ≤ K
  pub few_reads : length a.held.reads ≤ K
  pub tip_height : a.tip_height < 256 ^ 4
  pub tip : (opt_c id_c).ok a.tip

label_ok : (o : Option Bytes) → LabelBytes o → label_len o ≤ 200 → label_c.ok o
unfolding label_c opt_c counted_c byte_c
label_ok none h k = tt
label_ok (some l) h k = (h, omega arith)

-- a holder is pending or Mined, and a pending record is a holder
pub held_split : (s : ℕ) (h : Bool) → held_right? s h ≡ true → one h ≡ one (pending? s) + one (eqb s mined && h)
held_split s true e = cases (pending? s)
    (λ t. rw (t, pending_mined s t))
    (λ t. let z : ((pending? s && true) || (((eqb s cancelled || eqb s expired) && false) || eqb s mined)) ≡ eqb s mined = rw (t, and_false (eqb s cancelled || eqb s expired)) in
    rw (t, sym z ∙ e))
held_split s false e = cases (pending? s)
    (λ t. or_true (eqb s queued) (eqb s conflicted) t
    (λ u. let z = eqb-true s 0 u in false_true (rw z at e))
    (λ _ u. let z = eqb-true s 3 u in false_true (rw z at e)))
    (λ t. rw (t, and_false (eqb s mined)))

pub weight_split : (s : ℕ) (b : Option Held) → held_right? s (is_some b) ≡ true → length (content b) ≡ cond (pending? s) (length (content b)) 0 + cond (eqb s mined) (length (content b)) 0
weight_split s none e = cases (pending? s) (λ t. rw t (cases (eqb s mined) (λ u. rw u) (λ u. rw u))) (λ t. rw t (cases (eqb s mined) (λ u. rw u) (λ u. rw u)))
weight_split s (some h) e = let z = held_split s true e in cases (pending? s)
    (λ t. rw (t, pending_mined s t) (omega arith))
    (λ t. cases (eqb s mined)
    (λ u. rw (t, u) (omega arith))
    (λ u. let w = rw (t, u) at z in absurd (omega arith)))

-- a weight grows by the new record's at most
put_total : (r : Rec) (l : List Rec) (w : Rec → ℕ) → total w (put r l) ≤ w r + total w l
put_total r l w =
    let x = insert_total (λ x y. below? x.id y.id) w r (filter (λ x. not (named? r.id x)) l) in
    let y = sub_total w (filter_sub (λ x. not (named? r.id x)) l) in
    omega arith

module _ (a : Admission) (q : Queue) (f : Fit q) (o : Admissible q.limits.K a) (r9 : ltb 200 (label_len a.label) ≡ false) where
  abbrev lt : Rec → Rec → Bool
  lt x y = below? x.id y.id

  abbrev rest : List Rec
  rest = filter (λ x. not (named? (new_rec a).id x)) q.recs

  new_right : Right q.limits.K q.counter (new_rec a)
  unfolding new_rec
  new_right = record {
    held = refl;
    reason = refl;
    place = refl;
    mark = refl;
    caller = o.caller;
    finish = refl;
    label = ltb-false 200 (label_len a.label) r9;
    ins = o.few_ins;
    outs = o.few_outs;
    reads = o.few_reads;
    size = eq-eqb (length a.held.bytes) (length a.held.bytes) refl;
  }

  new_fields : length a.held.bytes ≤ q.limits.B → Fields (new_rec a)
  unfolding new_rec terms_k held_k body_k place_c map_c pair_c be_c opt_c counted_c byte_c
  new_fields h =
      let n = f.sound.range.B-high in
      let k = f.sound.range.K-high in
      let i = o.few_ins in
      let j = o.few_outs in
      let l = o.few_reads in
      record {
        id = o.id;
        caller = let c = o.caller in omega arith;
        state = omega arith;
        reason = omega arith;
        terms = (o.now, (o.due, (o.due_height, (o.priority, (label_ok a.label o.label (ltb-false 200 (label_len a.label) r9), (o.fee, (omega arith, o.cost)))))));
        place = tt;
        mark = omega arith;
        finish = omega arith;
        body = ((o.ins, omega arith), ((o.outs, omega arith), ((o.reads, omega arith), (o.bytes, omega arith))));
      }

  put_sound : pendings q.recs < q.limits.P → pending_bytes q.recs + length a.held.bytes ≤ q.limits.B → clash? a.held.ins q.recs ≡ false
      → crossed? a.held.ins a.held.reads q.recs ≡ false → Sound q.limits q.counter (put (new_rec a) q.recs)
  unfolding new_rec
  put_sound r10 r11 r12 r20 =
      let s = f.sound in
      let u = filter_sub (λ x. not (named? (new_rec a).id x)) q.recs in
      core_sound q.limits q.counter (put (new_rec a) q.recs) (record {
        range = s.range;
        few_holders =
            let x = put_total (new_rec a) q.recs (λ r. one (holder? r)) in
            let y = total_split (λ r. one (holder? r)) (λ r. one (pending? r.state)) (λ r. one (mined? r && holder? r)) q.recs (all_map q.recs (λ r h. held_split r.state (holder? r) h.held) s.right) in
            let z = s.few_mined in
            omega arith;
        few_bytes =
            let x = put_total (new_rec a) q.recs (λ r. length (content r.body)) in
            let y = total_split (λ r. length (content r.body)) (λ r. cond (pending? r.state) (length (content r.body)) 0) (λ r. cond (mined? r) (length (content r.body)) 0) q.recs
            (all_map q.recs (λ r h. weight_split r.state r.body h.held) s.right) in
            let z = s.few_mined_bytes in
            omega arith;
        few_mined = let x = put_total (new_rec a) q.recs (λ r. one (mined? r && holder? r)) in let z = s.few_mined in omega arith;
        few_mined_bytes = let x = put_total (new_rec a) q.recs (λ r. cond (mined? r) (length (content r.body)) 0) in let z = s.few_mined_bytes in omega arith;
        right = insert_all lt (Right q.limits.K q.counter) (new_rec a) rest new_right (sub_all _ u s.right);
        rising = insert_rising lt (λ x y z. below_trans x.id y.id z.id) (new_rec a) rest
            (all_map rest (λ x h e. below_total a.id x.id e (not-true _ h)) (filter_all (λ x. not (named? (new_rec a).id x)) q.recs))
            (sub_pairwise Before u s.rising);
        distinct = insert_apart lt Distinct distinct_sym (new_rec a) rest (all_every _ (λ x e. false_true (sym e)) rest) (sub_pairwise Distinct u s.distinct);
        apart = insert_apart lt Apart apart_sym (new_rec a) rest
            (sub_all (Apart (new_rec a)) u (apart_from a.held.ins a.held.reads q.recs r12 r20))
            (sub_pairwise Apart u s.apart);
      }) (let x = put_total (new_rec a) q.recs (λ r. one (not (holder? r))) in let z = s.few_tombs in omega arith)

  cursor_ok : (l : List Rec) → (cond (is_empty? l) a.tip_height q.cursor < 256 ^ 4) × (opt_c id_c).ok (cond (is_empty? l) a.tip q.tip)
  cursor_ok [] = (o.tip_height, o.tip)
  cursor_ok (r ∷ l) = (f.cursor, f.tip)

  pub new_leaves : Leaves q (admit_new a q)
  new_leaves = cases (leb q.limits.P (pendings q.recs))
      (λ x. rw x tt)
      (λ x. cases (leb (share_of a.caller q.limits) (pendings_of a.caller q.recs))
      (λ v. rw (x, v) tt)
      (λ v. cases (ltb q.limits.B (pending_bytes q.recs + length a.held.bytes))
      (λ y. rw (x, v, y) tt)
      (λ y. cases (clash? a.held.ins q.recs)
      (λ z. rw (x, v, y, z) tt)
      (λ z. cases (crossed? a.held.ins a.held.reads q.recs)
      (λ w. rw (x, v, y, z, w) tt)
      (λ w. let r10 = leb-false q.limits.P (pendings q.recs) x in
      let r11 = ltb-false q.limits.B (pending_bytes q.recs + length a.held.bytes) y in
      let c = cursor_ok q.recs in
      rw (x, v, y, z, w) (committed_kept _ _ q.counter (put (new_rec a) q.recs) q f c.0 c.1 f.counter
      (put_sound r10 r11 z w)
      (insert_all lt Fields (new_rec a) rest (new_fields (omega arith)) (sub_all Fields (filter_sub (λ x. not (named? (new_rec a).id x)) q.recs) f.recs))))))))

  found_leaves : (x : Option Rec) → Leaves q (maybe (admit_new a q) (λ r. cond (pending? r.state || mined? r) (done Nothing q r) (admit_new a q)) x)
  found_leaves none = new_leaves
  found_leaves (some r) = cases (pending? r.state || mined? r) (λ t. rw t (same_kept q f)) (λ t. rw t new_leaves)

pub admit_leaves : (a : Admission) (q : Queue) → Fit q → Admissible q.limits.K a → Leaves q (admit a q)
unfolding admit
admit_leaves a q f o = cases (reached? a.due a.now)
    (λ x. rw x tt)
    (λ x. cases (reached? a.due_height a.tip_height)
    (λ y. rw (x, y) tt)
    (λ y. cases (ltb 200 (label_len a.label))
    (λ z. rw (x, y, z) tt)
    (λ z. rw (x, y, z) (found_leaves a q f o z (find (named? a.id) q.recs)))))

pub admit_wholly : (a : Admission) (q : Queue) → Wholly (admit a q)
unfolding admit
admit_wholly a q = cases (reached? a.due a.now)
    (λ x. rw x tt)
    (λ x. cases (reached? a.due_height a.tip_height)
    (λ y. rw (x, y) tt)
    (λ y. cases (ltb 200 (label_len a.label))
    (λ z. rw (x, y, z) tt)
    (λ z. rw (x, y, z) (found (find (named? a.id) q.recs)))))
  where
    free : Wholly (admit_new a q)
    free = cases (leb q.limits.P (pendings q.recs))
        (λ x. rw x tt)
        (λ x. cases (leb (share_of a.caller q.limits) (pendings_of a.caller q.recs))
        (λ v. rw (x, v) tt)
        (λ v. cases (ltb q.limits.B (pending_bytes q.recs + length a.held.bytes))
        (λ y. rw (x, v, y) tt)
        (λ y. cases (clash? a.held.ins q.recs)
        (λ z. rw (x, v, y, z) tt)
        (λ z. cases (crossed? a.held.ins a.held.reads q.recs) (λ w. rw (x, v, y, z, w) tt) (λ w. rw (x, v, y, z, w) tt)))))

    found : (x : Option Rec) → Wholly (maybe (admit_new a q) (λ r. cond (pending? r.state || mined? r) (done Nothing q r) (admit_new a q)) x)
    found none = free
    found (some r) = cases (pending? r.state || mined? r) (λ t. rw t tt) (λ t. rw t free)

-- what a call leaves, and whether it writes
abbrev entered : Out Rec → List Rec
entered (refused n) = []
entered (done k q a) = q.recs

abbrev writes : Out Rec → ℕ
writes (refused n) = 0
writes (done k q a) = wholly k
  where
    wholly : Kind → ℕ
    wholly Nothing = 0
    wholly Memory = 0
    wholly Whole = 1
    wholly Cursor = 0

-- an admission that enters leaves its caller within its share, and all within P
pub within_share : WithinShare
unfolding WithinShare admit committed new_rec
within_share a q x r e = cases (reached? a.due a.now)
    (λ t. no_entry (rw t at e))
    (λ t. cases (reached? a.due_height a.tip_height)
    (λ u. no_entry (rw (t, u) at e))
    (λ u. cases (ltb 200 (label_len a.label))
    (λ v. no_entry (rw (t, u, v) at e))
    (λ v. found (find (named? a.id) q.recs) (rw (t, u, v) at e))))
  where
    no_entry : {X : Type 0} {n : ℕ} → refused n ≡ done Whole x r → X
    no_entry e = let z : ◌≡◌ {A = ℕ} 0 1 = cc in absurd (omega arith)

    new : admit_new a q ≡ done Whole x r → (pendings_of a.caller x.recs ≤ share_of a.caller q.limits) × (pendings x.recs ≤ q.limits.P)
    new e = cases (leb q.limits.P (pendings q.recs))
        (λ t. no_entry (rw t at e))
        (λ t. cases (leb (share_of a.caller q.limits) (pendings_of a.caller q.recs))
        (λ u. no_entry (rw (t, u) at e))
        (λ u. cases (ltb q.limits.B (pending_bytes q.recs + length a.held.bytes))
        (λ v. no_entry (rw (t, u, v) at e))
        (λ v. cases (clash? a.held.ins q.recs)
        (λ w. no_entry (rw (t, u, v, w) at e))
        (λ w. cases (crossed? a.held.ins a.held.reads q.recs)
        (λ y. no_entry (rw (t, u, v, w, y) at e))
        (λ y.
        let d = rw (t, u, v, w, y) at e in
        let recs : put (new_rec a) q.recs ≡ x.recs = ap entered d in
        let i = leb-false q.limits.P (pendings q.recs) t in
        let j = leb-false (share_of a.caller q.limits) (pendings_of a.caller q.recs) u in
        let k = put_total (new_rec a) q.recs (λ y. one (pending? y.state)) in
        let l = put_total (new_rec a) q.recs (λ y. one (pending? y.state && eqb y.caller a.caller)) in
        let m = one_le (eqb a.caller a.caller) in
        rw (← recs) (omega arith, omega arith))))))

    found : (o : Option Rec) → maybe (admit_new a q) (λ y. cond (pending? y.state || mined? y) (done Nothing q y) (admit_new a q)) o ≡ done Whole x r → (pendings_of a.caller x.recs ≤ share_of a.caller q.limits) × (pendings x.recs ≤ q.limits.P)
    found none e = new e
    found (some y) e = cases (pending? y.state || mined? y)
        (λ t. let d = rw t at e in let z : ◌≡◌ {A = ℕ} 0 1 = ap writes d in absurd (omega arith))
        (λ t. new (rw t at e))

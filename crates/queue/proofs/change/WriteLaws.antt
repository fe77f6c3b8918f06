-- Whole areas written from an area. Assumes nothing.
use Rattle.std.specs.Prelude as code
use Rattle.std.specs.Prelude.{◌≡◌, refl, Bool, true, false, List, [], ◌∷◌, ◌++◌, ℕ, ◌+◌, ◌≤◌, ◌<◌, leb, length, drop, take}
use Rattle.std.proofs.Common.{ap, sym, ◌∙◌, append_assoc, arith, length-append, length-drop, drop-drop, take_at, drop_at, leb-true}
use Rattle.std.proofs.Math.Option.{Option, none, some}
use Rattle.queue.specs.Basics.{length_eight}
use Rattle.queue.specs.Codec as codec
use Rattle.queue.specs.Codec.{All, be_c, be_length, opt_c, opt_enc, encs, vec_c}
use Rattle.queue.specs.Lists.{and_true}
use Rattle.queue.specs.bytes.Parts.{part}
use Rattle.queue.specs.layout.FrameCodec.{Head, id_c, limits_c, rec_c}
use Rattle.queue.specs.bytes.ReaderLaws.{false_true}
use Rattle.queue.specs.layout.FormsCodec.{form_c, queue_c, store_of, head_for}
use Rattle.queue.specs.layout.RecordsAs.{RecordsIn}
use Rattle.queue.specs.read.FindAs.{recs_in}
use Rattle.queue.specs.Areas.{read_area}
use Rattle.queue.specs.layout.FrameAs.{limits_in, HeadAs, head_t}
use Rattle.queue.specs.check.AreaAs.{AreaAs, records_of}
use Rattle.queue.specs.theorems.SoundParts.{Right}
use Rattle.queue.specs.layout.HeadAs.{front_len, tip_in, tip_size, TipLong, head_with, front_bytes, queue_of}
use Rattle.queue.specs.layout.LimitsAs.{shares_long}
use Rattle.queue.specs.change.WriteAs.{HeadIn, TipIs}
use Rattle.queue.specs.theorems.Plain.{bytes_plain, limits_plain}
use Rattle.queue.specs.paper.Records.{Bytes, Id, Limits, Rec, Queue}
use Rattle.queue.specs.paper.Lists.{is_some}
use Rattle.queue.specs.paper.Sound.{need, holder?, finish_right?, tombstones}
use Rattle.queue.specs.paper.Calls.{numbers}
use Rattle.queue.specs.paper.Kinds.{newest}
use Rattle.queue.specs.declared.layout.frame.Head as code_head
use Rattle.queue.specs.declared.check.area.Area.{Area}
use Rattle.queue.specs.declared.layout.head.Marks.{Marks}
use Rattle.queue.proofs.check.AreaLaws.{recs_stand, fit}
use Rattle.queue.proofs.layout.LimitsLaws.{sixteen}
use Rattle.queue.proofs.layout.HeadLaws.{head_enc, front_enc}

-- ---- the tip
part_in_law : (v p x r : Bytes) (k : ℕ) → drop k v ≡ (p ++ x) ++ r → take (length x) (drop (k + length p) v) ≡ x
part_in_law v p x r k e =
    ap (take (length x)) (sym (drop-drop (length p) k v) ∙ ap (drop (length p)) (e ∙ append_assoc p x r) ∙ drop_at p (x ++ r) (length p) refl) ∙ take_at x r (length x) refl

tip_enc : (c : ℕ) (i : Id) → (be_c 4).enc c ++ (opt_c id_c).enc (some i) ≡ (codec.be 4 c ++ (1 ∷ [])) ++ i
unfolding opt_c opt_enc id_c vec_c be_c
tip_enc c i = ap (λ k. codec.be 4 c ++ (1 ∷ k)) (bytes_plain i) ∙ sym (append_assoc (codec.be 4 c) (1 ∷ []) i)

tip_ok : (i : Id) → (opt_c id_c).ok (some i) → length i ≡ 32
unfolding opt_c id_c vec_c
tip_ok i h = h.1

module _ (v : Bytes) (x : Head) (h : code_head.Head) (w : HeadAs v h x) where
  tip_some : (i : Id) → x.tip ≡ some i → length i ≡ 32 → (take 32 (drop 94 v) ≡ i) × (126 ≤ length v)
  tip_some i e l =
      let a : drop 89 v ≡ ((codec.be 4 x.cursor ++ (1 ∷ [])) ++ i) ++ drop h.after v = ap (λ k. drop k v) (sym w.marks_at) ∙ w.marks ∙ ap (λ o. ((be_c 4).enc x.cursor ++ (opt_c id_c).enc o) ++ drop h.after v) e ∙ ap (λ k. k ++ drop h.after v) (tip_enc x.cursor i) in
      let n : length (codec.be 4 x.cursor ++ (1 ∷ [])) ≡ 5 = let y = be_length 4 x.cursor in length-append (codec.be 4 x.cursor) (1 ∷ []) ∙ omega arith in
      let b = part_in_law v (codec.be 4 x.cursor ++ (1 ∷ [])) i (drop h.after v) 89 a in
      let c : take 32 (drop 94 v) ≡ i = ap (λ k. take k (drop 94 v)) (sym l) ∙ ap (λ k. take (length i) (drop (89 + k) v)) (sym n) ∙ b in
      (c, omega (arith, ap length a, length-append ((codec.be 4 x.cursor ++ (1 ∷ [])) ++ i) (drop h.after v), length-append (codec.be 4 x.cursor ++ (1 ∷ [])) i, length-drop 89 v, w.end, w.size_at))

  pub tip_room : (opt_c id_c).ok x.tip → h.tip ≡ true → 126 ≤ length v
  tip_room o t = go x.tip refl
    where
      go : (y : Option Id) → x.tip ≡ y → 126 ≤ length v
      go none e = false_true (sym (ap is_some e) ∙ w.tip ∙ t)
      go (some i) e = (tip_some i e (tip_ok i (rw e at o))).1

  pub tip_here : {r : Id} → (opt_c id_c).ok x.tip → h.tip ≡ true → r ≡ part 32 v 94 → some r ≡ x.tip
  unfolding part
  tip_here {r} o t f = go x.tip refl
    where
      go : (y : Option Id) → x.tip ≡ y → some r ≡ x.tip
      go none e = false_true (sym (ap is_some e) ∙ w.tip ∙ t)
      go (some i) e = rw e (ap some (f ∙ (tip_some i e (tip_ok i (rw e at o))).0))

  pub tip_none : h.tip ≡ false → none ≡ x.tip
  tip_none t = go x.tip refl
    where
      go : (y : Option Id) → x.tip ≡ y → none ≡ x.tip
      go none e = sym e
      go (some i) e = false_true (sym t ∙ sym w.tip ∙ ap is_some e)

-- ---- the records as they stand

module _ {s : Bytes} {a : Area} {q : Queue} (w : AreaAs s a q) where
  pub the_limits : q.limits ≡ limits_in a.open.head.limits
  the_limits = sym w.store.head.lim

  pub shares_sixteen : length (numbers a.open.head.limits.shares) ≡ 16
  shares_sixteen = sixteen a.open.head.limits.shares w.store.head.fit.long

  pub long_need : 512 ≤ a.need
  unfolding need
  long_need = omega (arith, w.need)

  pub head_in_law : HeadIn s a.open.head
  head_in_law = (head_for (store_of q), w.store.head, (fit w).tip)

  pub tip_of_law : (r : code.Option Id) → TipIs s a.open.head r → tip_in r ≡ q.tip
  tip_of_law r t = t (head_for (store_of q)) w.store.head (fit w).tip

-- how long a queue's bytes are
tip_long : (tip : code.Option Id) → TipLong tip → length ((opt_c id_c).enc (tip_in tip)) ≡ tip_size tip
unfolding opt_c opt_enc id_c vec_c
tip_long (code.Some id) h = let e = ap length (bytes_plain id) in omega arith
tip_long code.None h = refl

pub limits_long : (l : Limits) → length l.shares ≡ 16 → length (limits_c.enc l) ≡ 80
limits_long l h =
    let b = be_length 4 l.P in let c = be_length 4 l.B in let d = be_length 4 l.T in let e = be_length 4 l.K in let f = shares_long l.shares in
    ap length (limits_plain newest l) ∙ simp length-append (omega arith)

front_long : (l : Limits) (m : Marks) → length l.shares ≡ 16 → TipLong m.tip → length (front_bytes l m) ≡ front_len + tip_size m.tip
unfolding front_bytes
front_long l m n h =
    let a = be_length 4 m.persisted.0 in let b = limits_long l n in
    let f = be_length 8 m.revision in let g = be_length 4 m.cursor.0 in let i = tip_long m.tip h in let j = be_length 8 m.counter.0 in let k = be_length 4 m.count in
    ap (λ y. length (codec.be 4 m.persisted.0 ++ y)) (head_enc (head_with l m))
    ∙ length_eight (codec.be 4 m.persisted.0) (1 ∷ []) (limits_c.enc l) (codec.be 8 m.revision) (codec.be 4 m.cursor.0) ((opt_c id_c).enc (tip_in m.tip)) (codec.be 8 m.counter.0) (codec.be 4 m.count)
    ∙ omega arith

pub queue_long : (l : Limits) (m : Marks) (recs : List Rec) → length l.shares ≡ 16 → m.count ≡ length recs → TipLong m.tip → length (queue_c.enc (queue_of l m recs)) ≡ front_len + tip_size m.tip + length (encs rec_c recs)
queue_long l m recs n e h = ap length (sym (front_enc l m recs e)) ∙ length-append (front_bytes l m) (encs rec_c recs) ∙ ap (λ k. k + length (encs rec_c recs)) (front_long l m n h)

-- ---- one queue
abbrev queue : ℕ → Limits → ℕ → ℕ → Option Id → ℕ → List Rec → Queue
queue p l r c t n f = record { persisted = p; limits = l; revision = r; cursor = c; tip = t; counter = n; recs = f }

pub same_queue : {p p' r r' c c' n n' : ℕ} {l l' : Limits} {t t' : Option Id} {f f' : List Rec} → p ≡ p' → l ≡ l' → r ≡ r' → c ≡ c' → t ≡ t' → n ≡ n' → f ≡ f' → queue p l r c t n f ≡ queue p' l' r' c' t' n' f'
same_queue {p} {p'} {r} {r'} {c} {c'} {n} {n'} {l} {l'} {t} {t'} {f} {f'} e1 e2 e3 e4 e5 e6 e7 = rw (e1, e2, e3, e4, e5, e6, e7)

pub one_queue : (s : Bytes) {q q' : Queue} → read_area s ≡ some q → read_area s ≡ some q' → q ≡ q'
one_queue s e f = cc

-- ---- what the floor asks
all_stamps : (K c : ℕ) (l : List Rec) → All (Right K c) l → All (λ r. holder? r ≡ false → r.finish ≤ c) l
all_stamps K c [] h = tt
all_stamps K c (r ∷ l) h = (λ b. let e : finish_right? c false r.finish ≡ true = rw b at h.0.finish in leb-true _ _ (and_true (leb 1 r.finish) _ e).1, all_stamps K c l h.1)

pub floor_needs : {s : Bytes} {a : Area} {q : Queue} → AreaAs s a q → (g : ℕ) → g ≤ a.open.head.count → a.open.head.counter.0 + g < 18446744073709551616
    → RecordsIn (form_c false rec_c) s (records_of a.open) × (a.open.head.count < 4294967296) × (g ≤ a.open.head.count) × (a.open.head.counter.0 + g < 18446744073709551616) × (0 < a.open.head.limits.t) × (a.open.head.limits.t < 4294967296)
    × All (λ r. holder? r ≡ false → r.finish ≤ a.open.head.counter.0) (recs_in s a) × (tombstones (recs_in s a) ≤ 1024)
floor_needs {s} {a} {q} w g h k =
    let st = w.store in
    let f = fit w in
    let t = head_t st.head in
    (recs_stand st, st.head.count_small, h, k, omega (arith, f.sound.range.T-low), st.head.fit.t, rw (st.list, ← st.head.counter) (all_stamps _ _ q.recs f.sound.right), rw st.list (omega (arith, f.sound.few_tombs, f.sound.range.T-high)))

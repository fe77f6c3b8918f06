-- A queue found in bytes or in a text: limits, counts, and each exit of its readers. Assumes nothing.
use Rattle.std.specs.Prelude.{◌≡◌, refl, Bool, true, false, cond, ◌&&◌, List, [], ◌∷◌, ℕ, ◌+◌, ◌-◌, ◌*◌, ◌≤◌, ◌<◌, leb, length, drop, take, ◌++◌}
use Rattle.std.proofs.Common.{ap, sym, ◌∙◌, arith, mul-le-mul, leb-true, le-leb}
use Rattle.std.proofs.Math.Option.{none, some}
use Rattle.std.proofs.lemmas.Bool.{lt-leb}
use Rattle.queue.proofs.bytes.PutByteLaws.{between}
use Rattle.queue.specs.theorems.SoundParts.{Fit, fit_of}
use Rattle.queue.specs.Basics.{and_same}
use Rattle.queue.specs.Codec.{Got, fail, got, Codec, cases, be_c, be_length, decs, vec_bwd, encs}
use Rattle.queue.specs.Lists.{and_true}
use Rattle.queue.specs.layout.FrameCodec.{head_k, rec_c}
use Rattle.queue.specs.bytes.ReaderAs.{Fails, Found, whole, list_at, is_got, val_of}
use Rattle.queue.specs.bytes.ReaderLaws.{false_true, weaken, values}
use Rattle.queue.specs.bytes.ViewAs.{view}
use Rattle.queue.specs.layout.FormsCodec.{form_c, after_in_value, ends_line_value, Framed, framed, frame_bad, frame_open, taken, Many, NotMany, Store, head_in, rec_in_value, store_in, area_form, store_fail, store_cut, store_read, queue_c, store_of, queue_fail, queue_cut, queue_read, form_raw}
use Rattle.queue.specs.layout.RecordsAs.{RecordsIn, records}
use Rattle.queue.specs.Areas.{read_area, zero?, reads_stands, area_found, area_none}
use Rattle.queue.specs.layout.FrameAs.{facts_of, limits_in, HeadUnder}
use Rattle.queue.specs.check.RulesAs.{weight, sum}
use Rattle.queue.specs.check.ScanAs.{SumsAs, CheckedAs, counts_n}
use Rattle.queue.specs.check.AreaAs.{StoreAs, sound_l, sound_list, filled_by, filled_in, FilledTo, Unfilled, AreaIn, records_of, AreaAs}
use Rattle.queue.specs.paper.Ids.{rise?}
use Rattle.queue.specs.paper.Records.{Bytes, Limits, Rec, Queue}
use Rattle.queue.specs.paper.Lists.{all?, map}
use Rattle.queue.specs.paper.Sound.{in_range, need, holder?, holders, holder_bytes, mined_holders, mined_bytes, tombstones, right?, counts?, distinct?, apart?, read_apart?, sound?, shares_right?, limits_right?}
use Rattle.queue.specs.declared.layout.frame.Head.{Head}
use Rattle.queue.specs.declared.layout.frame.Form.{Form}
use Rattle.queue.specs.declared.layout.frame.Finish.{Finish}
use Rattle.queue.specs.declared.check.area.Open.{Open}
use Rattle.queue.specs.declared.check.area.Area.{Area}
use Rattle.queue.specs.declared.check.scan.Sums.{Sums}
use Rattle.queue.specs.declared.check.rules.Query.TheVariants.{Holders, HeldBytes, MinedHolders, MinedBytes}
use Rattle.queue.specs.layout.LimitsAs.{need_most}

-- ---- limits
pub record Ranged (m : Limits) : Type 0 where
  pub p1 : 1 ≤ m.P
  pub p2 : m.P ≤ 1024
  pub b1 : 1 ≤ m.B
  pub b2 : m.B ≤ 16777216
  pub t1 : 1 ≤ m.T
  pub t2 : m.T ≤ 1024
  pub k1 : 1 ≤ m.K
  pub k2 : m.K ≤ 128

pub ranged : (m : Limits) → in_range m ≡ true → Ranged m
unfolding in_range
ranged m e =
    let x = and_true _ _ e in
    let y = and_true _ _ x.0 in
    let z = and_true _ _ x.1 in
    let y0 = and_true _ _ y.0 in
    let y1 = and_true _ _ y.1 in
    let z0 = and_true _ _ z.0 in
    let z1 = and_true _ _ z.1 in
    record { p1 = leb-true _ _ y0.0; p2 = leb-true _ _ y0.1; b1 = leb-true _ _ y1.0; b2 = leb-true _ _ y1.1; t1 = leb-true _ _ z0.0; t2 = leb-true _ _ z0.1; k1 = leb-true _ _ z1.0; k2 = leb-true _ _ z1.1 }

-- the product in an area's need is small
pub product : (p k : ℕ) → p ≤ 1024 → k ≤ 128 → 2 * p * (512 + 96 * k) ≤ 2048 * 12800
product p k h g = let a : 2 * p ≤ 2048 = omega arith in let b : 512 + 96 * k ≤ 12800 = omega arith in mul-le-mul a b

-- ---- counts
pub list_length : {A : Type 0} (𝓐 : Codec A) (n : ℕ) (s : Bytes) (at : ℕ) → whole 𝓐 n s at ≡ true → length (list_at 𝓐 n s at) ≡ n
unfolding whole list_at
list_length {A} 𝓐 n s at w = go (decs 𝓐 n (drop at s)) refl w
  where
    go : (o : Got (List A)) → decs 𝓐 n (drop at s) ≡ o → is_got o ≡ true → length (val_of o) ≡ n
    go fail p w = false_true w
    go (got l r) p w = (vec_bwd 𝓐 n (drop at s) l r p).1.1

pub holders_sum : (l : List Rec) → sum Holders l ≡ holders l
unfolding sum weight facts_of
holders_sum l = refl

pub bytes_sum : (l : List Rec) → sum HeldBytes l ≡ holder_bytes l
unfolding sum weight facts_of
bytes_sum l = refl

pub mined_sum : (l : List Rec) → sum MinedHolders l ≡ mined_holders l
unfolding sum weight facts_of
mined_sum l = refl

pub mined_bytes_sum : (l : List Rec) → sum MinedBytes l ≡ mined_bytes l
unfolding sum weight facts_of
mined_bytes_sum l = refl

pub tombs_rest : (l : List Rec) → holders l + tombstones l ≡ length l
tombs_rest [] = refl
tombs_rest (r ∷ l) = let i = tombs_rest l in cases (holder? r) (λ t. rw t (omega arith)) (λ t. rw t (omega arith))

counts_plain : (lim : Limits) (n : ℕ) {h i m e : ℕ} (l : List Rec) → h ≡ sum Holders l → i ≡ sum HeldBytes l → m ≡ sum MinedHolders l → e ≡ sum MinedBytes l → length l ≡ n
    → ((leb n (2 * lim.P + lim.T) && (leb h (2 * lim.P) && leb i (2 * lim.B))) && ((leb m lim.P && leb e lim.B) && leb (n - h) lim.T)) ≡ counts? lim l
unfolding counts?
counts_plain lim n l eh ei em ee g =
    let u = tombs_rest l in
    let v : length l - holders l ≡ tombstones l = omega arith in
    rw (eh, ei, em, ee, ← g, holders_sum, bytes_sum, mined_sum, mined_bytes_sum, v)

-- ---- the rules on what the records come to
module _ (m : Limits) (n : ℕ) (c : Finish) (a : Sums) (l : List Rec) (s : SumsAs m.K c a l) (g : length l ≡ n) where
  counts_is : counts_n n m.P m.B m.T a ≡ counts? m l
  unfolding counts_n
  counts_is = counts_plain m n l s.holders s.bytes s.mined s.minedbytes g

  pub held_few : a.holders ≤ n
  held_few = let u = tombs_rest l in let e = s.holders ∙ holders_sum l in omega arith

  pub tombs_are : tombstones l ≡ n - a.holders
  tombs_are = let u = tombs_rest l in let e = s.holders ∙ holders_sum l in omega arith

  pub sound_out : limits_right? m ≡ false → false ≡ sound_l m c.0 l
  unfolding sound_l
  sound_out e = rw e

  module _ (r : limits_right? m ≡ true) {x : Bool} (e : x ≡ counts_n n m.P m.B m.T a) where
    pub sound_many : x ≡ false → false ≡ sound_l m c.0 l
    unfolding sound_l
    sound_many f = rw (r, sym counts_is ∙ sym e ∙ f)

    pub few_tombs : x ≡ true → n - a.holders ≤ 1024
    unfolding counts_n
    few_tombs f =
        let u = and_true (leb n (2 * m.P + m.T) && (leb a.holders (2 * m.P) && leb a.bytes (2 * m.B))) _ (sym e ∙ f) in
        let v = leb-true (n - a.holders) m.T (and_true (leb a.mined m.P && leb a.minedbytes m.B) _ u.1).1 in
        omega (arith, (ranged m (and_true (in_range m) (shares_right? m) r).0).t2)

    module _ (f : x ≡ true) {y : Bool} (h : y ≡ (a.right && a.rises)) where
      pub sound_wrong : y ≡ false → false ≡ sound_l m c.0 l
      unfolding sound_l
      sound_wrong z = rw (r, sym counts_is ∙ sym e ∙ f) (deny (all? (right? m.K c.0) l) (rise? (map (λ r. r.id) l)) (distinct? l && (apart? l && read_apart? l)) (sym (h ∙ and_same s.right s.rises) ∙ z))
        where
          deny : (u v w : Bool) → (u && v) ≡ false → false ≡ (u && (v && w))
          deny true true w q = false_true (sym q)
          deny true false w q = refl
          deny false v w q = refl

      pub sound_in : {d o z : Bool} → y ≡ true → d ≡ distinct? l → o ≡ (apart? l && read_apart? l) → z ≡ (d && o) → z ≡ sound_l m c.0 l
      unfolding sound_l
      sound_in {d} {o} {z} q i j w =
          let u = and_true a.right a.rises (sym h ∙ q) in
          w ∙ rw (r, sym counts_is ∙ sym e ∙ f, sym s.right ∙ u.0, sym s.rises ∙ u.1, i, j)

pub sound_range : (m : Limits) (c : ℕ) (l : List Rec) → sound_l m c l ≡ true → in_range m ≡ true
unfolding sound_l
sound_range m c l e = (and_true (in_range m) (shares_right? m) (and_true (limits_right? m) _ e).0).0

-- ---- a store
module _ (form : Form) (s : Bytes) {base : ℕ} where
  pub store_short : Fails (head_k form.kind) (view form.hex s base) 0 → Fails (store_in form) s base
  store_short f = store_fail form (frame_bad form.hex f)

  module _ {h : Head} (r : Found (head_k form.kind) (view form.hex s base) 0 h.size (HeadUnder form.kind (view form.hex s base) h)) {e : Bool} (q : e ≡ ends_line_value form.hex s base h.size) where
    pub store_line : e ≡ false → Fails (store_in form) s base
    store_line f = store_fail form (frame_open form.hex r (sym q ∙ f))

    module _ (b : base ≤ length s) (f : e ≡ true) {j : ℕ} (g : j ≡ after_in_value form.hex s base h.size) where
      -- the header, with its count
      header : Found (head_in form) s base (after_in_value form.hex s base h.size) (λ a. (a.count ≡ h.count) × (HeadUnder form.kind (view form.hex s base) h a × Framed (head_k form.kind) form.hex s base h.size a))
      header = weaken (λ a. (a.count ≡ h.count) × (HeadUnder form.kind (view form.hex s base) h a × Framed (head_k form.kind) form.hex s base h.size a)) (framed form.hex b r (sym q ∙ f)) (λ y. (y.0.count, y))

      pub head_start : j ≤ length s
      head_start = rw g header.within

      pub store_few : NotMany (rec_in_value form) s j h.count → Fails (store_in form) s base
      store_few m = store_cut form header (rw g at m)

      pub store_good : {n : ℕ} {a : Sums} → CheckedAs form s (records j h.count) h.limits.k h.counter a n → Found (store_in form) s base n (StoreAs form s base (record { head = h; start = j; next = n; sums = a }))
      store_good {n} {a} m =
          let m' : Many (rec_in_value form) s (after_in_value form.hex s base h.size) h.count n = rw g at m.many in
          weaken (StoreAs form s base (record { head = h; start = j; next = n; sums = a })) (store_read form header m')
          (λ z. record {
            head = z.0.0;
            frame = z.0.1;
            start = g;
            all = m.many.is;
            list = ap (λ (i : ℕ). list_at (rec_in_value form) h.count s i) g ∙ sym z.1.0;
            count = z.1.1.1;
            end = m.many.end;
            up = m.many.up;
            ends = m.many.within;
            sums = m.sums;
          })

-- its records stand there
pub recs_stand : {form : Form} {s : Bytes} {base : ℕ} {x : Open} {st : Store} → StoreAs form s base x st → RecordsIn (rec_in_value form) s (records_of x)
recs_stand w = (omega (arith, w.up, w.ends), w.all)

-- ---- an area
pub filled_unsound : {s : Bytes} {x : Open} {b : Bool} → b ≡ sound_l (limits_in x.head.limits) x.head.counter.0 (list_at (form_c false rec_c) x.head.count s x.start) → b ≡ false → Unfilled s x
unfolding filled_by
filled_unsound e f = record { is = rw (← e, f) }

module _ {s : Bytes} {x : Open} {b : Bool} {m : ℕ} (e : b ≡ sound_l (limits_in x.head.limits) x.head.counter.0 (list_at (form_c false rec_c) x.head.count s x.start)) (t : b ≡ true) (n : m ≡ need (limits_in x.head.limits)) where
  pub filled_short : length s < m → Unfilled s x
  unfolding filled_by
  filled_short h = record { is = rw (← e, t, ← n, lt-leb m (length s) h) }

  pub filled_over : m ≤ length s → m < x.next → Unfilled s x
  unfolding filled_by
  filled_over h k = record { is = rw (← e, t, ← n, le-leb m (length s) h, lt-leb x.next m k) }

  module _ {z : Bool} (h : m ≤ length s) (k : x.next ≤ m) (f : z ≡ zero? (take (m - x.next) (drop x.next s))) where
    pub filled_dirty : z ≡ false → Unfilled s x
    unfolding filled_by
    filled_dirty g = record { is = rw (← e, t, ← n, le-leb m (length s) h, le-leb x.next m k, ← f, g) }

    pub filled_all : z ≡ true → m ≤ need_most → FilledTo s x m
    unfolding filled_by
    filled_all g l = record { is = rw (← e, t, ← n, le-leb m (length s) h, le-leb x.next m k, ← f, g); need = n; small = l }

four_bytes : (a : ℕ) → length ((be_c 4).enc a) ≡ 4
unfolding be_c
four_bytes a = be_length 4 a

-- the persisted height stands in the first four bytes
pub four : {s : Bytes} {v next : ℕ} → Found (be_c 4) (view false s 0) 0 next (λ x. x ≡ v) → Found (be_c 4) s 0 4 (λ x. x ≡ v) × (4 ≤ length s)
unfolding view
four {s} {v} {next} r =
    let z = taken (be_c 4) s next r.value r.is r.within in
    let l : next ≡ 4 = sym z.0 ∙ four_bytes r.value in
    (record { value = r.value; is = r.is ∙ rw l refl; up = omega arith; within = rw (← l) r.within; fact = r.fact }, rw (← l) r.within)

pub area_short : (s : Bytes) → Fails (be_c 4) (view false s 0) 0 → read_area s ≡ none
unfolding view
area_short s f = area_none (queue_fail (record { is = λ h. f.is h }))

filled_parts : (s : Bytes) (from : ℕ) (m : Limits) (c : ℕ) (l : List Rec) → filled_by s from m c l ≡ true → (need m ≤ length s) × (from ≤ need m)
unfolding filled_by
filled_parts s from m c l e =
    let a = and_true (sound_l m c l) _ e in
    let b = and_true (leb (need m) (length s)) _ a.1 in
    let d = and_true (leb from (need m)) _ b.1 in
    (leb-true _ _ b.0, leb-true _ _ d.0)

module _ {s : Bytes} {v next : ℕ} (a : Found (be_c 4) (view false s 0) 0 next (λ x. x ≡ v)) where
  pub area_bad : Fails (store_in area_form) s 4 → read_area s ≡ none
  area_bad f = area_none (queue_cut (four a).0 f)

module _ {s : Bytes} {v next : ℕ} {y : Open} (a : Found (be_c 4) (view false s 0) 0 next (λ x. x ≡ v)) (r : Found (store_in area_form) s 4 y.next (StoreAs area_form s 4 y)) where
  queue : Found queue_c s 0 y.next (λ q. (q.persisted ≡ v) × StoreAs area_form s 4 y (store_of q))
  queue = queue_read (four a).0 r

  the_limits : (q : Queue) → StoreAs area_form s 4 y (store_of q) → q.limits ≡ limits_in y.head.limits
  the_limits q w = sym w.head.lim

  stands : StoreAs area_form s 4 y (store_of (area_found queue).0)
  stands = (area_found queue).1.1

  reads : read_area s ≡ cond (filled_in s y) (some (area_found queue).0) none
  unfolding filled_by
  reads =
      let u = area_found queue in
      let q = u.0 in
      let st = u.1.1 in
      let m : q.limits ≡ limits_in y.head.limits = the_limits q st in
      let c : q.counter ≡ y.head.counter.0 = st.head.counter in
      let l : list_at (form_c false rec_c) y.head.count s y.start ≡ q.recs = st.list in
      let k : sound? q ≡ sound_l (limits_in y.head.limits) y.head.counter.0 (list_at (form_c false rec_c) y.head.count s y.start) = sound_list q ∙ rw (m, c, l) in
      u.2 ∙ rw (k, m)

  pub area_unfilled : Unfilled s y → read_area s ≡ none
  area_unfilled w = reads ∙ rw w.is

  pub area_good : {x : Area} {n : ℕ} → FilledTo s y n → x.persisted.0 ≡ v → x.open ≡ y → x.need ≡ n → AreaIn s x
  area_good {x} w e2 e3 e4 =
      let u = area_found queue in
      let q = u.0 in
      let m : q.limits ≡ limits_in y.head.limits = the_limits q stands in
      let rd : read_area s ≡ some q = reads ∙ rw w.is in
      let sd = reads_stands s q rd in
      let z = filled_parts s y.next (limits_in y.head.limits) y.head.counter.0 (list_at (form_c false rec_c) y.head.count s y.start) w.is in
      record {
        q = q;
        is = rd;
        read = record {
          persisted = u.1.0 ∙ sym e2;
          store = rw e3 stands;
          need = e4 ∙ w.need ∙ ap need (sym m);
          small = rw e4 w.small;
          fits = rw (e3, e4, w.need) z.1;
          long = rw (e4, w.need) z.0;
          sound = sd.sound;
          range = sd.range;
        };
      }

-- ---- the queue that an area holds
module _ {s : Bytes} {a : Area} {q : Queue} (w : AreaAs s a q) where
  pub recs_here : (take (a.open.next - a.open.start) (drop a.open.start s) ≡ encs rec_c q.recs) × (length (encs rec_c q.recs) ≡ a.open.next - a.open.start)
  recs_here =
      let st = w.store in
      let e : drop a.open.start s ≡ encs rec_c q.recs ++ drop a.open.next s =
      values (form_c false rec_c) a.open.head.count s a.open.start st.all ∙ rw (st.list, ← st.end, form_raw rec_c) in
      between s (encs rec_c q.recs) a.open.start a.open.next e st.up st.ends

  pub fit : Fit q
  fit = fit_of q w.sound w.range

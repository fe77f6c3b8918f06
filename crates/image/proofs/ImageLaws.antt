-- Laws of the image: a text that is read, frames in the other form, and each exit of the calls. Assumes nothing.
use Rattle.std.specs.Prelude.{◌≡◌, refl, Bool, true, false, cond, List, [], ◌∷◌, ◌++◌, ℕ, suc, ◌+◌, ◌-◌, ◌*◌, ◌≤◌, ◌<◌, length, drop, take, get_or, replicate, is_some}
use Rattle.std.proofs.Common.{ap, sym, ◌∙◌, append_assoc, append-nil, arith, zero-add, length-append, length-drop, take-append-drop, take_at, drop_at, drop-drop, length-take-le, lt-ltb, le-ltb, le-leb, leb-true, eq-eqb, ne_eqb}
use Rattle.std.proofs.Math.Option.{Option, none, some}
use Rattle.queue.specs.Basics.{join_left}
use Rattle.queue.specs.declared.Kind.TheVariants.{Nothing}
use Rattle.queue.specs.paper.Answer.{Refused, Done}
use Rattle.queue.specs.declared.layout.frame.Form.{Form}
use Rattle.queue.specs.declared.layout.frame.Head as code_head
use Rattle.queue.specs.declared.layout.frame.Seen.{Seen}
use Rattle.queue.specs.declared.check.area.Open.{Open}
use Rattle.queue.specs.declared.check.area.Area.{Area}
use Rattle.queue.specs.Codec as codec
use Rattle.queue.specs.Codec.{Codec, be_c, pair_c, map_c, opt_enc, opt_c, vec_c, counted_c, encs}
use Rattle.queue.specs.layout.Choice.{fix_c, pick_c, since_c}
use Rattle.queue.specs.layout.FrameCodec.{Head, id_c, ids_c, low32, narrow_c, priority_c, reads_enc, signed_enc, limits_c, head_c, rec_k, rec_c, spans_id}
use Rattle.queue.specs.bytes.ReaderAs.{Fails, Found, reads?, whole, list_at}
use Rattle.queue.specs.bytes.ReaderLaws.{false_true, Turn, none_left, values}
use Rattle.queue.specs.bytes.ViewAs.{view}
use Rattle.queue.specs.Hex.{text_length}
use Rattle.queue.specs.bytes.PutAs.{splice, be_last, Put}
use Rattle.queue.specs.layout.FormsCodec.{form_c, line_enc, after_in_value, Framed, turn_in, stands_in, Store, head_for, head_in, rec_in_value, store_in, area_form, text_form, frames_c, frames_enc, store_length, store_of, queue_with, queue_c, form_raw, ok_queue}
use Rattle.queue.specs.layout.FrameAs.{times, heights, facts_of, limits_in, limits_len, SeenUnder, HeadUnder}
use Rattle.queue.specs.theorems.OlderKinds.{narrow_enc, rec_enc, rec_fore, rec_mid, body_said, head_tail, head_first}
use Rattle.queue.specs.Areas.{kind_of, read_area, read_image, layout, image, image_found, image_none, image_unknown}
use Rattle.queue.specs.check.AreaAs.{limits, StoreAs, sound_l, sound_list, AreaAs, AreaIn}
use Rattle.queue.specs.theorems.Plain.{area_plain, image_plain}
use Rattle.queue.specs.theorems.Bound.{fits_need, area_size, reads_image}
use Rattle.queue.specs.paper.Records.{Bytes, Id, Limits, Held, Rec, Queue}
use Rattle.queue.specs.paper.Lists as lists
use Rattle.queue.specs.paper.Lists.{is_empty?, maybe}
use Rattle.queue.specs.declared.layout.frame.Facts.{Facts}
use Rattle.queue.specs.paper.Kinds.{newest, kind?, has_callers, has_reads, has_wide, reads_said?}
use Rattle.queue.specs.paper.Sound.{need, in_range, sound?}
use Rattle.queue.specs.paper.Area.{area_bytes, shares_bytes, line, image_bytes, over}
use Rattle.queue.specs.paper.Calls.{limits_of}
use Rattle.queue.specs.Checked.{written}
use Rattle.queue.proofs.bytes.PutLaws.{splice_is, then, kept, recast, sized, Left, begun, onward, done}
use Rattle.queue.proofs.bytes.PutByteLaws.{be_same, between}
use Rattle.queue.proofs.layout.LimitsLaws.{sixteen, shares_bytes_law}
use Rattle.queue.proofs.change.WriteLaws.{limits_long}
use Rattle.queue.proofs.layout.TurnLaws.{SeenForm, FoundForm}
use Rattle.queue.specs.declared.refusal.Refusal.TheVariants.{NotAnImage}
use Rattle.image.specs.declared.text.Text.{Text}
use Rattle.image.specs.ImageAs.{TextAs, TextIn, NoText, FrameIn, caller_end_value, priority_from_value, rec_back, StoreRoom, StorePut, AreaHeld, ImageLen, AreaRoom, AreaPut}
use Rattle.image.specs.paper.Image.{image_of, open_of, Five, need_of, image_limits_of}
use Rattle.queue.specs.layout.LimitsAs.{need_most}

-- ---- a text
pub kind_is : {k : ℕ} (s : Bytes) {v : Bytes} → v ≡ view true s 0 → k ≡ get_or v 0 0 → k ≡ kind_of s
unfolding kind_of
kind_is s h e = e ∙ ap (λ (b : Bytes). get_or b 0 0) h

pub text_other : (s : Bytes) (k : ℕ) → k ≡ kind_of s → kind? k ≡ false → read_image s ≡ none
text_other s k i g = image_unknown s k i g

module _ {s : Bytes} (k : ℕ) (i : k ≡ kind_of s) (kn : kind? k ≡ true) where
  pub text_none : Fails (store_in (text_form k)) s 0 → read_image s ≡ none
  text_none f = image_none k i kn f

  module _ {y : Open} (r : Found (store_in (text_form k)) s 0 y.next (StoreAs (text_form k) s 0 y)) where
    abbrev lim : Limits
    lim = limits_in y.head.limits

    abbrev rules : Bool
    rules = sound_l lim y.head.counter.0 (list_at (rec_in_value (text_form k)) y.head.count s y.start)

    the_limits : (st : Store) → StoreAs (text_form k) s 0 y st → st.limits ≡ lim
    the_limits st w = sym w.head.lim

    the_rules : (st : Store) → StoreAs (text_form k) s 0 y st → sound? (queue_with st.cursor st) ≡ rules
    the_rules st w =
        let m = the_limits st w in
        let c : st.counter ≡ y.head.counter.0 = w.head.counter in
        let l = w.list in
        let e : sound_l st.limits st.counter st.recs ≡ rules = cc in
        sound_list (queue_with st.cursor st) ∙ e

    pub text_long : (y.next ≡ length s → ⊥) → read_image s ≡ none
    text_long n = let u = image_found k i kn r in u.2 ∙ rw (ne_eqb y.next (length s) n) refl

    pub text_unsound : {b : Bool} → y.next ≡ length s → b ≡ rules → b ≡ false → read_image s ≡ none
    text_unsound n d t = let u = image_found k i kn r in u.2 ∙ rw (eq-eqb y.next (length s) n, the_rules u.0 u.1, ← d, t) refl

    pub text_good : {x : Text} {b : Bool} {m : ℕ} → y.next ≡ length s → b ≡ rules → b ≡ true → m ≡ need lim → m ≤ need_most → x.form ≡ text_form k → x.open ≡ y → x.need ≡ m → TextIn s x
    text_good {x} {b} {m} n d t g l e4 e2 e3 =
        let u = image_found k i kn r in
        let rd : read_image s ≡ some (queue_with u.0.cursor u.0) = u.2 ∙ rw (eq-eqb y.next (length s) n, the_rules u.0 u.1, ← d, t) refl in
        let w = reads_image s (queue_with u.0.cursor u.0) rd in
        record {
          q = queue_with u.0.cursor u.0;
          is = rd;
          read = record {
            told = e4 ∙ ap text_form i;
            store = rw (e4, e2) u.1;
            need = e3 ∙ g ∙ ap need (sym (the_limits u.0 u.1));
            small = rw e3 l;
            sound = w.0;
            range = w.1.0;
            level = refl;
          };
        }

-- a text that is read to its end, whose queue breaks a rule
pub unsound_read : {s v : Bytes} {k : ℕ} {y : Open} {kn b : Bool} → v ≡ view true s 0 → k ≡ get_or v 0 0 → kn ≡ kind? k → kn ≡ true
    → Found (store_in (text_form k)) s 0 y.next (StoreAs (text_form k) s 0 y) → y.next ≡ length s
    → b ≡ sound_l (limits_in y.head.limits) y.head.counter.0 (list_at (rec_in_value (text_form k)) y.head.count s y.start) → b ≡ false
    → NoText s NotAnImage
unsound_read {s} {v} {k} {y} h i a t r n d e = record { refusal = refl; is = text_unsound k (kind_is s h i) (sym a ∙ t) r n d e }

-- ---- one frame
-- as a view has it
pub in_view : {A : Type 0} {𝓐 : Codec A} {hex : Bool} {s : Bytes} {i m : ℕ} {a : A} → Framed 𝓐 hex s i m a → FrameIn 𝓐 (view hex s i) m a
in_view f = record { fine = f.fine; within = f.within; bytes = f.bytes; size = f.size }

-- a frame of an area as a line
pub line_of : {A : Type 0} {𝓐 : Codec A} {v : Bytes} {m : ℕ} {a : A} → FrameIn 𝓐 v m a → (form_c true 𝓐).enc a ≡ line (take m v)
unfolding form_c line_enc
line_of f = ap line (sym f.bytes)

line_long : (b : Bytes) → length (line b) ≡ 2 * length b + 1
line_long b = let e = text_length b in rw length-append (omega arith)

pub line_size : {A : Type 0} {𝓐 : Codec A} {v : Bytes} {m : ℕ} {a : A} → FrameIn 𝓐 v m a → length ((form_c true 𝓐).enc a) ≡ 2 * m + 1
unfolding form_c line_enc
line_size {𝓐 = 𝓐} {a = a} f = line_long (𝓐.enc a) ∙ rw f.size refl

-- a record's frame under the newest kind
pub cond_most : (b : Bool) (m n : ℕ) → n ≤ m → cond b m n ≤ m
cond_most true m n h = omega arith
cond_most false m n h = h

-- bytes that stand in the midst of others
pub slice : (v a b c : Bytes) (n i m : ℕ) → take n v ≡ a ++ (b ++ c) → length a ≡ i → length b ≡ m → n ≤ length v → (take m (drop i v) ≡ b) × (i + m ≤ n)
slice v a b c n i m e la lb h =
    let f : take n v ++ drop n v ≡ v = take-append-drop n v in
    let g : v ≡ a ++ (b ++ (c ++ drop n v)) = sym f ∙ ap (λ (x : Bytes). x ++ drop n v) e ∙ append_assoc a (b ++ c) (drop n v) ∙ ap (λ (x : Bytes). a ++ x) (append_assoc b c (drop n v)) in
    let d : drop i v ≡ b ++ (c ++ drop n v) = ap (drop i) g ∙ drop_at a (b ++ (c ++ drop n v)) i la in
    (ap (take m) d ∙ take_at b (c ++ drop n v) m lb, omega (arith, sym (length-take-le n v h) ∙ ap length e, length-append a (b ++ c), length-append b c))

-- the last of them
pub slice_end : (v a b : Bytes) (n i : ℕ) → take n v ≡ a ++ b → length a ≡ i → n ≤ length v → (take (n - i) (drop i v) ≡ b) × (i + length b ≡ n)
slice_end v a b n i e la h =
    let l : i + length b ≡ n = omega (arith, sym (length-take-le n v h) ∙ ap length e, length-append a b) in
    ((slice v a b [] n i (n - i) (e ∙ ap (λ (x : Bytes). a ++ x) (sym (append-nil b))) la (omega arith) h).0, l)

none_ids : ids_c.enc [] ≡ 0 ∷ 0 ∷ []
unfolding counted_c vec_c encs
none_ids = refl

pub empty_ids : (l : List Id) → is_empty? l ≡ true → ids_c.enc l ≡ 0 ∷ 0 ∷ []
empty_ids [] z = none_ids
empty_ids (i ∷ l) z = false_true z

pub be_size : (n v : ℕ) → length ((be_c n).enc v) ≡ n
unfolding be_c
be_size n v = codec.be_length n v

opt_size : (n : ℕ) (o : Option ℕ) → length ((opt_c (be_c n)).enc o) ≡ 1 + cond (lists.is_some o) n 0
unfolding opt_c opt_enc be_c
opt_size n none = refl
opt_size n (some v) = let k = codec.be_length n v in omega arith

fore_size : (r : Rec) → length (rec_fore r) ≡ 12 + cond (lists.is_some r.terms.due) 8 0 + cond (lists.is_some r.terms.due_height) 4 0
unfolding rec_fore
fore_size r =
    let a = be_size 1 r.state in
    let b = be_size 1 r.reason in
    let c = be_size 8 r.terms.created in
    let d = opt_size 8 r.terms.due in
    let e = opt_size 4 r.terms.due_height in
    sizes ((be_c 1).enc r.state) ((be_c 1).enc r.reason) ((be_c 8).enc r.terms.created) ((opt_c (be_c 8)).enc r.terms.due) ((opt_c (be_c 4)).enc r.terms.due_height) ∙ omega arith
  where
    sizes : (a b c d e : Bytes) → length (a ++ (b ++ (c ++ (d ++ e)))) ≡ length a + length b + length c + length d + length e
    sizes a b c d e = simp length-append (omega arith)

timed : (o : Option ℕ) → is_some (times o) ≡ lists.is_some o
timed none = refl
timed (some n) = refl

heighted : (o : Option ℕ) → is_some (heights o) ≡ lists.is_some o
heighted none = refl
heighted (some n) = refl

module _ (kind : ℕ) {seen : Bytes} {x : Seen} {r : Rec} (w : SeenUnder kind seen x r) (f : FrameIn (rec_k kind) seen x.size r) where
  abbrev front : Bytes
  front = 2 ∷ id_c.enc r.id

  abbrev caller : Bytes
  caller = (be_c 1).enc r.caller

  -- the caller where the kind has it
  abbrev callers : Bool → Bytes
  callers b = (since_c b (be_c 1) 0).enc r.caller

  abbrev prio : ℕ → Bytes
  prio k = (priority_c k).enc r.terms.priority

  abbrev back : ℕ → Bytes
  back k = rec_mid r ++ (reads_enc k r.body ++ signed_enc r.body)

  abbrev tail : ℕ → Bytes
  tail k = rec_fore r ++ (prio k ++ back k)

  abbrev lead : Bytes
  lead = front ++ callers (has_callers kind)

  -- where its parts end
  abbrev ce : ℕ
  ce = caller_end_value kind

  abbrev pr : ℕ
  pr = priority_from_value kind x.facts

  pub front_long : length front ≡ 33
  unfolding rec_k map_c pair_c
  front_long = let i = spans_id.size r.id f.fine.1.0 in omega arith

  caller_long : length caller ≡ 1
  caller_long = be_size 1 r.caller

  lead_long : (b : Bool) → length (front ++ callers b) ≡ cond b 34 33
  unfolding fix_c
  lead_long true = let c = caller_long in let l = front_long in length-append front caller ∙ omega arith
  lead_long false = let l = front_long in length-append front [] ∙ omega arith

  pub fore_long : ce + length (rec_fore r) ≡ pr
  unfolding facts_of
  fore_long =
      let a = ap (λ (y : Facts). is_some y.due) w.facts ∙ timed r.terms.due in
      let b = ap (λ (y : Facts). is_some y.due_height) w.facts ∙ heighted r.terms.due_height in
      let c : length (rec_fore r) ≡ 12 + cond (is_some x.facts.due) 8 0 + cond (is_some x.facts.due_height) 4 0 = fore_size r ∙ rw (← a, ← b) refl in
      omega arith

  parts : take x.size seen ≡ lead ++ tail kind
  parts = f.bytes ∙ rec_enc kind r ∙ sym (append_assoc front (callers (has_callers kind)) (tail kind))

  lead_here : (take ce seen ≡ lead) × (ce ≤ x.size)
  lead_here = let u = slice seen [] lead (tail kind) x.size 0 ce parts refl (lead_long (has_callers kind)) f.within in (u.0, omega (arith, u.1))

  -- from the state to the deadlines
  pub fore_here : (take (pr - ce) (drop ce seen) ≡ rec_fore r) × (ce ≤ pr) × (pr ≤ x.size)
  fore_here =
      let l = fore_long in
      let u = slice seen lead (rec_fore r) (prio kind ++ back kind) x.size ce (pr - ce) parts (lead_long (has_callers kind)) (omega arith) f.within in
      (u.0, omega arith, omega (arith, u.1))

  -- behind the priority of n bytes
  back_here : (n : ℕ) → length (prio kind) ≡ n → (take (x.size - (pr + n)) (drop (pr + n) seen) ≡ back kind) × (pr + n + length (back kind) ≡ x.size)
  back_here n l =
      slice_end seen ((lead ++ rec_fore r) ++ prio kind) (back kind) x.size (pr + n) (parts ∙ join_left lead (rec_fore r) (prio kind) (back kind))
      (length-append (lead ++ rec_fore r) (prio kind) ∙ omega (arith, length-append lead (rec_fore r), lead_long (has_callers kind), fore_long)) f.within

  pub lead_in : (ce ≤ length seen) × (34 ≤ length ((rec_in_value area_form).enc r))
  unfolding form_c
  lead_in =
      let a = lead_here.1 in
      let b = f.within in
      let c = ap length (rec_enc newest r) ∙ length-append front (caller ++ tail newest) in
      let d = length-append caller (tail newest) in
      let e = front_long in
      let g = caller_long in
      (omega arith, omega arith)

  module _ (t : has_callers kind ≡ true) where
    pub lead_has : ce ≡ 34
    lead_has = rw t

    pub lead_yes : take 34 (drop 0 seen) ≡ front ++ caller
    lead_yes = ap (λ (n : ℕ). take n seen) (sym lead_has) ∙ lead_here.0 ∙ ap (λ (b : Bool). front ++ callers b) t

  module _ (t : has_callers kind ≡ false) where
    pub lead_not : ce ≡ 33
    lead_not = rw t

    no_caller : r.caller ≡ 0
    unfolding rec_k map_c pair_c fix_c
    no_caller = let c = f.fine.1.1.0 in let d : (since_c false (be_c 1) 0).ok r.caller = rw t at c in d

    pub lead_no : take 33 (drop 0 seen) ++ (0 ∷ []) ≡ front ++ caller
    unfolding be_c fix_c
    lead_no =
        ap (λ (y : Bytes). y ++ (0 ∷ [])) (ap (λ (n : ℕ). take n seen) (sym lead_not) ∙ lead_here.0 ∙ ap (λ (b : Bool). front ++ callers b) t)
        ∙ append_assoc front [] (0 ∷ []) ∙ ap (λ (c : ℕ). front ++ codec.be 1 c) (sym no_caller)

  reads_same : has_reads kind ≡ true → back newest ≡ back kind
  reads_same t = sym (ap (λ (b : Bool). rec_mid r ++ (maybe [] (λ h. (since_c b ids_c []).enc h.reads) r.body ++ signed_enc r.body)) t)

  -- a kind that has priorities of 64 bits has the same bytes
  module _ (t : has_wide kind ≡ true) where
    callers_too : has_callers kind ≡ true
    callers_too = let h = leb-true 6 kind t in le-leb 4 kind (omega arith)

    reads_too : has_reads kind ≡ true
    reads_too = let h = leb-true 6 kind t in le-leb 5 kind (omega arith)

    same_enc : (rec_k newest).enc r ≡ (rec_k kind).enc r
    same_enc =
        rec_enc newest r ∙ ap (λ (y : Bytes). front ++ (caller ++ (rec_fore r ++ (prio newest ++ y)))) (reads_same reads_too)
        ∙ sym (rec_enc kind r ∙ ap (λ (b : Bool). front ++ (callers b ++ tail kind)) callers_too
        ∙ ap (λ (b : Bool). front ++ (caller ++ (rec_fore r ++ ((pick_c b (be_c 8) narrow_c).enc r.terms.priority ++ back kind)))) t)

    pub rec_same : (rec_in_value area_form).enc r ≡ take x.size seen
    unfolding form_c
    rec_same = same_enc ∙ sym f.bytes

    pub same_long : length ((rec_in_value area_form).enc r) ≡ x.size
    unfolding form_c
    same_long = ap length same_enc ∙ f.size

  -- one that has 32 bits has 4 bytes for them
  module _ (t : has_wide kind ≡ false) where
    narrow_long : length (prio kind) ≡ 4
    narrow_long = ap (λ (b : Bool). length ((pick_c b (be_c 8) narrow_c).enc r.terms.priority)) t ∙ ap length (narrow_enc r.terms.priority) ∙ be_size 4 (low32 r.terms.priority)

    the_back : (take (x.size - (pr + 4)) (drop (pr + 4) seen) ≡ back kind) × (pr + 4 + length (back kind) ≡ x.size)
    the_back = back_here 4 narrow_long

    the_priority : codec.be 8 r.terms.priority ≡ be_last 8 x.facts.priority
    unfolding facts_of
    the_priority = ap (codec.be 8) (sym (ap (λ (y : Facts). y.priority) w.facts)) ∙ sym (be_same 8 x.facts.priority w.small.priority)

    -- its lead, what stands before the priority, this, and what stands behind it
    pub narrow_enc_is : (rec_in_value area_form).enc r ≡ (((front ++ caller) ++ take (pr - ce) (drop ce seen)) ++ be_last 8 x.facts.priority) ++ back newest
    unfolding form_c be_c
    narrow_enc_is = rec_enc newest r ∙ join front caller (rec_fore r) (codec.be 8 r.terms.priority) (back newest) (sym fore_here.0) the_priority
      where
        join : (a b m₀ p₀ z : Bytes) {m' p' : Bytes} → m₀ ≡ m' → p₀ ≡ p' → a ++ (b ++ (m₀ ++ (p₀ ++ z))) ≡ (((a ++ b) ++ m') ++ p') ++ z
        join a b m₀ p₀ z e g = rw (e, g) (sym (simp append_assoc))

    pub narrow_in : (ce ≤ pr) × (pr + 4 ≤ x.size) × (x.size ≤ length seen)
    narrow_in = (fore_here.1, omega (arith, the_back.1), f.within)

    pub narrow_size : length ((rec_in_value area_form).enc r) ≡ 34 + (pr - ce) + 8 + length (back newest)
    narrow_size =
        let a = length-take-le (pr - ce) (drop ce seen) (omega (arith, narrow_in.0, narrow_in.1, narrow_in.2, length-drop ce seen)) in
        let b = front_long in
        let c = caller_long in
        let d : length (be_last 8 x.facts.priority) ≡ 8 = refl in
        ap length narrow_enc_is ∙ sizes front caller (take (pr - ce) (drop ce seen)) (be_last 8 x.facts.priority) (back newest) ∙ omega arith
      where
        sizes : (a b m d z : Bytes) → length ((((a ++ b) ++ m) ++ d) ++ z) ≡ length a + length b + length m + length d + length z
        sizes a b m d z = simp length-append

    -- with read ids what stands behind it is the same
    module _ (u : has_reads kind ≡ true) where
      pub back_same : rec_back r ≡ take (x.size - (pr + 4)) (drop (pr + 4) seen)
      back_same = reads_same u ∙ sym the_back.0

      pub back_same_long : length (rec_back r) ≡ x.size - (pr + 4)
      back_same_long = ap length (reads_same u) ∙ omega (arith, the_back.1)

    -- without them there are no bytes for them
    module _ (u : has_reads kind ≡ false) where
      none_enc : (o : Option Held) → reads_enc kind o ≡ []
      unfolding fix_c
      none_enc none = refl
      none_enc (some h) = ap (λ (b : Bool). (since_c b ids_c []).enc h.reads) u

      zero_enc : (o : Option Held) → reads_said? kind o ≡ true → reads_enc newest o ≡ cond (lists.is_some o) (0 ∷ 0 ∷ []) []
      zero_enc none e = refl
      zero_enc (some h) e = let z : is_empty? h.reads ≡ true = rw u at e in empty_ids h.reads z

      unread_enc : reads_enc newest r.body ≡ cond x.facts.holder (0 ∷ 0 ∷ []) []
      unfolding rec_k map_c pair_c facts_of
      unread_enc = zero_enc r.body (body_said kind r.body f.fine.1.1.1.1.1.1.1.1.1) ∙ ap (λ (b : Bool). cond b (0 ∷ 0 ∷ []) []) (sym (ap (λ (y : Facts). y.holder) w.facts))

      two_parts : take (x.size - (pr + 4)) (drop (pr + 4) seen) ≡ rec_mid r ++ signed_enc r.body
      two_parts = the_back.0 ∙ ap (λ (d : Bytes). rec_mid r ++ (d ++ signed_enc r.body)) (none_enc r.body)

      two_long : pr + 4 + length (rec_mid r) ≡ x.reads
      two_long =
          let a = ap length (ap (λ (d : Bytes). rec_mid r ++ (d ++ signed_enc r.body)) (none_enc r.body)) in
          omega (arith, the_back.1, a, length-append (rec_mid r) (signed_enc r.body), w.tail u)

      mid_parts : (take (x.reads - (pr + 4)) (drop (pr + 4) seen) ≡ rec_mid r) × (take (x.size - x.reads) (drop x.reads seen) ≡ signed_enc r.body)
      mid_parts =
          let l = two_long in
          let g = w.tail u in
          let m = x.size - (pr + 4) in
          let v = drop (pr + 4) seen in
          let h = narrow_in in
          let k = length-drop (pr + 4) seen in
          let a = slice v [] (rec_mid r) (signed_enc r.body) m 0 (x.reads - (pr + 4)) two_parts refl (omega arith) (omega arith) in
          let b = slice_end v (rec_mid r) (signed_enc r.body) m (x.reads - (pr + 4)) two_parts (omega arith) (omega arith) in
          let c : m - (x.reads - (pr + 4)) ≡ x.size - x.reads = omega arith in
          let o : pr + 4 + (x.reads - (pr + 4)) ≡ x.reads = omega arith in
          let d : drop (x.reads - (pr + 4)) v ≡ drop x.reads seen = drop-drop (x.reads - (pr + 4)) (pr + 4) seen ∙ ap (λ (i : ℕ). drop i seen) o in
          (a.0, ap (λ (y : Bytes). take (x.size - x.reads) y) (sym d) ∙ ap (λ (i : ℕ). take i (drop (x.reads - (pr + 4)) v)) (sym c) ∙ b.0)

      pub older_in : (pr + 4 ≤ x.reads) × (x.reads ≤ x.size) × (x.size ≤ length seen)
      older_in = let g = w.tail u in let l = two_long in (omega arith, omega arith, f.within)

      pub back_older : rec_back r ≡ (take (x.reads - (pr + 4)) (drop (pr + 4) seen) ++ cond x.facts.holder (0 ∷ 0 ∷ []) []) ++ take (x.size - x.reads) (drop x.reads seen)
      back_older =
          ap (λ (d : Bytes). rec_mid r ++ (d ++ signed_enc r.body)) unread_enc
          ∙ join (cond x.facts.holder (0 ∷ 0 ∷ []) []) (sym mid_parts.0) (sym mid_parts.1)
        where
          join : {m m' z z' : Bytes} (d : Bytes) → m ≡ m' → z ≡ z' → m ++ (d ++ z) ≡ (m' ++ d) ++ z'
          join d e g = rw (e, g) (sym (simp append_assoc))

      pub older_long : length (rec_back r) ≡ x.reads - (pr + 4) + cond x.facts.holder 2 0 + (x.size - x.reads)
      older_long =
          let o = older_in in
          let a = length-take-le (x.reads - (pr + 4)) (drop (pr + 4) seen) (omega (arith, length-drop (pr + 4) seen)) in
          let b = length-take-le (x.size - x.reads) (drop x.reads seen) (omega (arith, length-drop x.reads seen)) in
          ap length back_older ∙ sizes (take (x.reads - (pr + 4)) (drop (pr + 4) seen)) (cond x.facts.holder (0 ∷ 0 ∷ []) []) (take (x.size - x.reads) (drop x.reads seen)) ∙ total a (two x.facts.holder) b
        where
          sizes : (m d z : Bytes) → length ((m ++ d) ++ z) ≡ length m + length d + length z
          sizes m d z = simp length-append

          two : (b : Bool) → length {A = ℕ} (cond b (0 ∷ 0 ∷ []) []) ≡ cond b 2 0
          two true = refl
          two false = refl

          total : {m d z m' d' z' : ℕ} → m ≡ m' → d ≡ d' → z ≡ z' → m + d + z ≡ m' + d' + z'
          total g h i = omega arith

-- a header's: its kind, its limits, and what stands behind them
module _ (kind : ℕ) {v : Bytes} {x : code_head.Head} {h : Head} (w : HeadUnder kind v x h) where
  tail_here : drop (x.marks - 8) v ≡ head_tail h ++ drop x.size v
  unfolding head_tail
  tail_here =
      let n = limits_len kind in
      let e : x.marks - 8 ≡ 1 + n = omega (arith, w.marks_at) in
      let m : drop (9 + n) v ≡ ((be_c 4).enc h.cursor ++ (opt_c id_c).enc h.tip) ++ drop x.after v = ap (λ (j : ℕ). drop j v) (sym w.marks_at) ∙ w.marks in
      ap (λ (j : ℕ). drop j v) e ∙ w.revision_at ∙ ap (λ (y : Bytes). (be_c 8).enc h.revision ++ y) (m ∙ ap (λ (y : Bytes). ((be_c 4).enc h.cursor ++ (opt_c id_c).enc h.tip) ++ y) w.counter_at) ∙ simp append_assoc

  pub tail_parts : (take (x.size - (x.marks - 8)) (drop (x.marks - 8) v) ≡ head_tail h) × (length (head_tail h) ≡ x.size - (x.marks - 8))
  tail_parts = between v (head_tail h) (x.marks - 8) x.size tail_here (omega (arith, w.marks_at, w.up, w.size_at)) w.end

  pub head_bytes_law : (head_in area_form).enc h ≡ ((newest ∷ []) ++ limits_c.enc (limits_in x.limits)) ++ take (x.size - (x.marks - 8)) (drop (x.marks - 8) v)
  unfolding form_c
  head_bytes_law =
      head_first newest h ∙ ap (λ (m : Limits). newest ∷ (limits_c.enc m ++ head_tail h)) (sym w.lim)
      ∙ ap (λ (t : Bytes). newest ∷ (limits_c.enc (limits_in x.limits) ++ t)) (sym tail_parts.0)

  pub head_long : length ((head_in area_form).enc h) ≡ 81 + (x.size - (x.marks - 8))
  unfolding form_c
  head_long =
      ap length (head_first newest h ∙ ap (λ (m : Limits). newest ∷ (limits_c.enc m ++ head_tail h)) (sym w.lim))
      ∙ ap suc (length-append (limits_c.enc (limits_in x.limits)) (head_tail h)) ∙ omega (arith, limits_long (limits_in x.limits) (sixteen x.limits.shares w.fit.long), tail_parts.1)

  pub head_in_law : (8 ≤ x.marks) × (x.marks - 8 ≤ x.size) × (x.size ≤ length v)
  head_in_law = (omega (arith, w.marks_at), omega (arith, w.marks_at, w.up, w.size_at), w.end)

-- ---- the loops over the record frames: read in a form, written by a codec
module _ (form : Form) (𝓞 : Codec Rec) (s : Bytes) (n at : ℕ) (d₀ : Bytes) (to : ℕ) where
  abbrev pub outs : ℕ → ℕ → Bytes
  outs k i = encs 𝓞 (list_at (rec_in_value form) k s i)

  pub record Turning (i left : ℕ) (d : Bytes) (o : ℕ) : Type 0 where
    pub within : i ≤ length s
    pub all : whole (rec_in_value form) left s i ≡ true
    pub long : length d ≡ length d₀
    pub rest : Left d₀ to (outs n at) d o (outs left i)

  pub turning : at ≤ length s → whole (rec_in_value form) n s at ≡ true → Turning at n d₀ to
  turning h w = record { within = h; all = w; long = refl; rest = begun d₀ to (outs n at) }

  -- a record stands at the place of a turn
  pub turn_stands : {i left o : ℕ} {d : Bytes} → Turning i left d o → 0 < left → reads? (rec_k form.kind) (view form.hex s i) 0 ≡ true
  turn_stands {left = left} x p = stands_in (rec_k form.kind) form.hex s left x.within x.all p

  module _ {i left o m : ℕ} {d : Bytes} {y : Seen} (x : Turning i left d o) (p : 0 < left) (r : FoundForm form s i m y) where
    pub turn_here : Turn (rec_in_value form) s left i (after_in_value form.hex s i m) (SeenForm form s i m y)
    turn_here = turn_in form.hex left x.within x.all p r

    turn_list : outs left i ≡ 𝓞.enc turn_here.item ++ outs (left - 1) (after_in_value form.hex s i m)
    unfolding encs
    turn_list = ap (encs 𝓞) turn_here.list

    pub turn_room : to + length (outs n at) ≤ length d₀ → o + length (𝓞.enc turn_here.item) ≤ length d
    turn_room h = omega (arith, x.rest.pos, x.long, ap length turn_list, length-append (𝓞.enc turn_here.item) (outs (left - 1) (after_in_value form.hex s i m)))

    pub turn_on : {d' : Bytes} {k q j : ℕ} → Put d o (𝓞.enc turn_here.item) k q d' → j ≡ after_in_value form.hex s i m → Turning j (left - 1) d' q
    turn_on w e = rw e (record { within = turn_here.within; all = turn_here.rest; long = kept w ∙ x.long; rest = onward (rw turn_list at x.rest) w })

  pub turn_end : {i left o : ℕ} {d : Bytes} → Turning i left d o → left ≡ 0 → Put d₀ to (outs n at) (length (outs n at)) o d
  unfolding encs
  turn_end {i} {left} x z = done (rw (none_left (rec_in_value form) s left i z).0 at x.rest)

-- ---- all frames
store_enc : (form : Form) (st : Store) → (store_in form).enc st ≡ (head_in form).enc (head_for st) ++ encs (rec_in_value form) st.recs
unfolding store_in frames_c frames_enc
store_enc form st = refl

module _ (from to : Form) {s : Bytes} {base : ℕ} {x : Open} {st : Store} (w : StoreAs from s base x st) where
  store_parts : (store_in to).enc st ≡ (head_in to).enc (head_for st) ++ encs (rec_in_value to) (list_at (rec_in_value from) x.head.count s x.start)
  store_parts = store_enc to st ∙ rw w.list

  store_size : length ((store_in to).enc st) ≡ length ((head_in to).enc (head_for st)) + length (encs (rec_in_value to) (list_at (rec_in_value from) x.head.count s x.start))
  store_size = ap length store_parts ∙ length-append ((head_in to).enc (head_for st)) _

  pub head_room : (at m : ℕ) → at + length ((store_in to).enc st) ≤ m → at + length ((head_in to).enc (head_for st)) ≤ m
  head_room at m h = omega (arith, store_size)

  pub recs_room : {d d' : Bytes} {at e : ℕ} → Put d at ((head_in to).enc (head_for st)) (length ((head_in to).enc (head_for st))) e d' → at + length ((store_in to).enc st) ≤ length d
      → e + length (encs (rec_in_value to) (list_at (rec_in_value from) x.head.count s x.start)) ≤ length d'
  recs_room p h = omega (arith, store_size, p.next, kept p)

  pub store_put : {d d' d'' : Bytes} {at e r k m : ℕ} → Put d at ((head_in to).enc (head_for st)) m e d'
      → Put d' e (encs (rec_in_value to) (list_at (rec_in_value from) x.head.count s x.start)) k r d'' → Put d at ((store_in to).enc st) (length ((store_in to).enc st)) r d''
  store_put p q = sized (then p q) store_parts

-- ---- how long an image is

module _ {s : Bytes} {x : Open} {st : Store} (w : StoreAs area_form s 4 x st) where
  recs_length : length (encs (form_c false rec_c) st.recs) ≡ x.next - x.start
  recs_length =
      let e : drop x.start s ≡ encs (form_c false rec_c) st.recs ++ drop x.next s = values (form_c false rec_c) x.head.count s x.start w.all ∙ rw (w.list, ← w.end) in
      omega (arith, w.up, w.ends, ap length e, length-append (encs (form_c false rec_c) st.recs) (drop x.next s), length-drop x.start s, length-drop x.next s)

  start_is : x.start ≡ 4 + x.head.size
  unfolding after_in_value
  start_is = w.start

  raw_length : length ((store_in area_form).enc st) ≡ x.next - 4
  raw_length =
      ap length (store_enc area_form st) ∙ simp length-append (omega (arith, recs_length, start_is, w.up, head_length))
    where
      head_length : length ((form_c false head_c).enc (head_for st)) ≡ x.head.size
      head_length = rw (form_raw head_c) w.frame.size

  pub start_four : (4 ≤ x.next) × (4 ≤ length s)
  start_four = (omega (arith, start_is, w.up), omega (arith, start_is, w.up, w.ends))

  lines_are : length ((store_in (text_form newest)).enc st) ≡ 2 * (x.next - 4) + 1 + x.head.count
  lines_are = store_length st ∙ omega (arith, raw_length, w.count)

image_is : (q : Queue) → (store_in (text_form newest)).enc (store_of q) ≡ image_bytes q
unfolding image
image_is q = image_plain newest q

pub image_length : {a : Area} {s : Bytes} {q : Queue} → AreaAs s a q → 2 * (a.open.next - 4) + 1 + a.open.head.count ≡ length (image_bytes q)
image_length {a} {s} {q} w = sym (lines_are w.store) ∙ ap length (image_is q)

-- ---- the image writer
pub over_splice : (bs d : Bytes) → length bs ≤ length d → splice d 0 bs ≡ over bs d
unfolding over
over_splice bs d h = splice_is d 0 bs (omega arith) ∙ rw zero-add

pub put_over : {d d' bs : Bytes} {n r : ℕ} → Put d 0 bs n r d' → length bs ≤ length d → d' ≡ over bs d
put_over {d} {d'} {bs} p h = p.is ∙ over_splice bs d h

pub write_unsound : (s out : Bytes) (old : ℕ) → read_area s ≡ none → (Refused 3, (out, old)) ≡ image_of s out old
unfolding image_of
write_unsound s out old e = rw e

module _ {s : Bytes} {a : Area} (w : AreaIn s a) (out : Bytes) (old : ℕ) where
  pub write_held : AreaHeld a
  write_held = record { area = s; queue = w.q; is = w.read }

  pub write_short : {n : ℕ} → ImageLen a n → length out < n → (Refused 4, (out, old)) ≡ image_of s out old
  unfolding image_of
  write_short {n} l h = let e = l s w.q w.read in rw (w.is, ← e, lt-ltb (length out) n h)

  pub write_room : {n : ℕ} → ImageLen a n → n ≤ length out → StoreRoom area_form (text_form newest) s 4 a.open 0 (length out)
  write_room l h =
      let e = l s w.q w.read in
      let k = ap length (image_is w.q) in
      record { store = store_of w.q; is = w.read.store; here = (start_four w.read.store).1; room = omega arith }

  pub write_done : {n r : ℕ} {out' : Bytes} → ImageLen a n → n ≤ length out → StorePut area_form (text_form newest) s 4 a.open out 0 r out' → (Done Nothing, (out', n)) ≡ image_of s out old
  unfolding image_of
  write_done {n} {r} {out'} l h p =
      let e = l s w.q w.read in
      let k : out' ≡ over ((store_in (text_form newest)).enc (store_of w.q)) out = put_over (p (store_of w.q) w.read.store) (omega (arith, ap length (image_is w.q))) in
      let o : out' ≡ over (image_bytes w.q) out = k ∙ ap (λ (b : Bytes). over b out) (image_is w.q) in
      rw (w.is, ← e, le-ltb (length out) n h) (ap (λ (b : Bytes). (Done Nothing, (b, n))) o)

-- ---- opening
module _ {s : Bytes} {t : Text} {q : Queue} (w : TextAs s t q) where
  queue_parts : queue_c.enc q ≡ codec.be 4 q.persisted ++ (store_in area_form).enc (store_of q)
  unfolding queue_c map_c pair_c be_c
  queue_parts = refl

  queue_length : length (queue_c.enc q) ≡ 4 + length ((store_in area_form).enc (store_of q))
  queue_length = ap length queue_parts ∙ simp (length-append, codec.be_length)

  area_room : 4 + length ((store_in area_form).enc (store_of q)) ≤ t.need
  area_room = omega (arith, fits_need q w.sound w.range, queue_length, w.need)

  pub four_room : (m : ℕ) → t.need ≤ m → 0 + 4 ≤ m
  four_room m h = omega (arith, area_room)

  pub frames_room : {d d' b : Bytes} {a : ℕ} → Put d 0 b 4 a d' → t.need ≤ length d → StoreRoom t.form area_form s 0 t.open a (length d')
  frames_room p h = record { store = store_of q; is = w.store; here = omega arith; room = omega (arith, area_room, p.next, kept p) }

  pub zeros_room : {d d' d'' b : Bytes} {a e : ℕ} → Put d 0 b 4 a d' → StorePut t.form area_form s 0 t.open d' a e d'' → t.need ≤ length d → (e ≤ t.need) × (t.need ≤ length d'')
  zeros_room p k h = let u = k (store_of q) w.store in (omega (arith, area_room, p.next, u.next), omega (arith, kept p, kept u))

  cursor_is : t.open.head.cursor.0 ≡ q.persisted
  cursor_is = sym w.store.head.cursor ∙ sym w.level

  head_is : be_last 4 t.open.head.cursor.0 ≡ codec.be 4 q.persisted
  head_is = rw cursor_is (be_same 4 q.persisted (ok_queue q w.range).0)

  pub area_put : {d d' d'' d''' : Bytes} {a e r : ℕ} → Put d 0 (be_last 4 t.open.head.cursor.0) 4 a d' → StorePut t.form area_form s 0 t.open d' a e d'' → Put d'' e (replicate (t.need - e) 0) (t.need - e) r d'''
      → Put d 0 (area_bytes q) (need q.limits) r d'''
  unfolding layout
  area_put {e = e} p k z =
      let u = k (store_of q) w.store in
      let n : e ≡ length (queue_c.enc q) = omega (arith, queue_length, p.next, u.next) in
      let b : be_last 4 t.open.head.cursor.0 ++ (store_in area_form).enc (store_of q) ≡ queue_c.enc q = ap (λ (y : Bytes). y ++ (store_in area_form).enc (store_of q)) head_is ∙ sym queue_parts in
      let f : t.need - e ≡ need q.limits - length (queue_c.enc q) = rw (n, w.need) in
      recast (then (then p u) z)
      (ap (λ (y : Bytes). y ++ replicate (t.need - e) 0) b ∙ ap (λ (m : ℕ). queue_c.enc q ++ replicate m 0) f ∙ area_plain q)
      (omega (arith, area_room, w.need, p.next, u.next))
      refl

pub open_none : (s area : Bytes) → read_image s ≡ none → written (Refused 16) area ≡ open_of s area
unfolding open_of
open_none s area e = rw e

module _ {s : Bytes} {t : Text} (w : TextIn s t) (area : Bytes) where
  pub open_short : length area < t.need → written (Refused 2) area ≡ open_of s area
  unfolding open_of
  open_short h = rw (w.is, ← w.read.need, lt-ltb (length area) t.need h)

  pub open_room : t.need ≤ length area → AreaRoom s t (length area)
  open_room h = record { queue = w.q; is = w.read; room = h }

  pub open_done : {area' : Bytes} {r : ℕ} → t.need ≤ length area → AreaPut s t area r area' → written (Done Nothing) area' ≡ open_of s area
  unfolding open_of
  open_done {area'} h p =
      let z = area_size w.q w.read.sound w.read.range in
      let o : area' ≡ over (area_bytes w.q) area = put_over (p w.q w.read) (omega (arith, w.read.need)) in
      rw (w.is, ← w.read.need, le-ltb (length area) t.need h) (ap (written (Done Nothing)) o)

-- ---- how much has to be lent
pub need_1 : (m : Limits) (old : ℕ) → in_range m ≡ false → (Refused 1, old) ≡ need_of m old
unfolding need_of
need_1 m old e = rw e

pub need_100 : (m : Limits) (old : ℕ) {n : ℕ} → in_range m ≡ true → n ≡ need m → (Done Nothing, n) ≡ need_of m old
unfolding need_of
need_100 m old e f = rw (e, f)

-- the shares have no part in it
pub need_alone : (p b t k : ℕ) (s : Bytes) → (in_range (limits_of p b t k s) ≡ in_range (limits p b t k)) × (need (limits_of p b t k s) ≡ need (limits p b t k))
unfolding in_range need
need_alone p b t k s = (refl, refl)

pub limits_16 : (s : Bytes) (old : Five) (shares : Bytes) → read_image s ≡ none → (Refused 16, (old, shares)) ≡ image_limits_of s old shares
unfolding image_limits_of
limits_16 s old shares e = rw e

module _ {s : Bytes} {t : Text} (w : TextIn s t) (old : Five) (shares : Bytes) where
  pub limits_4 : length shares < 64 → (Refused 4, (old, shares)) ≡ image_limits_of s old shares
  unfolding image_limits_of
  limits_4 h = rw (w.is, lt-ltb (length shares) 64 h)

  pub limits_100 : {d : Bytes} {r : ℕ} → 64 ≤ length shares → Put shares 0 t.open.head.limits.shares 64 r d
      → (Done Nothing, ((t.open.head.limits.p, (t.open.head.limits.b, (t.open.head.limits.t, (t.open.head.limits.k, t.need)))), d)) ≡ image_limits_of s old shares
  unfolding image_limits_of
  limits_100 {d} h p =
      let g = w.read.store.head in
      let v = t.open.head.limits.shares in
      let b : v ≡ shares_bytes w.q.limits.shares = sym (shares_bytes_law v g.fit.long g.fit.small) ∙ ap (λ (m : Limits). shares_bytes m.shares) g.lim in
      let o : d ≡ over (shares_bytes w.q.limits.shares) shares = put_over p (omega (arith, p.size)) ∙ ap (λ (y : Bytes). over y shares) b in
      rw (w.is, le-ltb (length shares) 64 h, ← w.read.need, ← o, ← g.lim)

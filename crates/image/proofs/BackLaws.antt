-- Laws of the way back: a text of the newest kind, and the image of kind 01 of its queue. Assumes nothing.
use Rattle.std.specs.Prelude.{◌≡◌, refl, Bool, true, false, cond, not, ◌&&◌, List, [], ◌∷◌, ◌++◌, ℕ, suc, ◌+◌, ◌-◌, ◌*◌, ◌%◌, ◌^◌, ◌≤◌, ◌<◌, eqb, length, drop, take, replicate}
use Rattle.std.proofs.Common.{ap, sym, ◌∙◌, append_assoc, append-nil, arith, length-append, take_at, length-take-le, lt-ltb, le-ltb, eq-eqb, ne_eqb}
use Rattle.std.proofs.lemmas.Bool.Decides.{Decides-eqb}
use Rattle.std.proofs.lemmas.Slice.Eq.{slice_eq-Decides}
use Rattle.std.specs.Str.{bytes_eq}
use Rattle.std.proofs.Math.Option.{Option, none, some}
use Rattle.queue.specs.Basics.{join_left}
use Rattle.queue.specs.declared.Kind.TheVariants.{Nothing}
use Rattle.queue.specs.paper.Answer.{Refused, Done}
use Rattle.queue.specs.declared.check.rules.Query.TheVariants.{Holders}
use Rattle.queue.specs.declared.layout.frame.Form.{Form}
use Rattle.queue.specs.declared.layout.frame.Facts.{Facts}
use Rattle.queue.specs.declared.layout.frame.Head as code_head
use Rattle.queue.specs.declared.layout.frame.Seen.{Seen}
use Rattle.queue.specs.declared.check.area.Open.{Open}
use Rattle.queue.specs.declared.layout.limits.Limits as code
use Rattle.queue.specs.Codec as codec
use Rattle.queue.specs.Codec.{be_c, byte_c, pair_c, map_c, vec_c, counted_c, encs, cases}
use Rattle.queue.specs.layout.Choice.{fix_c, then_c}
use Rattle.queue.specs.layout.FrameCodec.{Head, id_c, low32, reads_enc, signed_enc, four_c, sixteen_c, limits_k, head_k, rec_k, shares_c}
use Rattle.queue.specs.bytes.ReaderAs.{reads?, whole, list_at}
use Rattle.queue.specs.bytes.ReaderLaws.{false_true, Turn, none_left}
use Rattle.queue.specs.bytes.ViewAs.{view}
use Rattle.queue.specs.Hex.{dig_of, text_of, text_append}
use Rattle.queue.specs.bytes.PutAs.{be_last, Put}
use Rattle.queue.specs.layout.FormsCodec.{form_c, line_enc, after_in_value, Store, head_for, head_in, rec_in_value, store_in, text_form, line_length, store_of, image_enc, ok_store, ok_queue, turn_in, stands_in, lines_length, queue_c, area_form}
use Rattle.queue.specs.layout.FrameAs.{facts_of, limits_in, LimitsFit, SeenUnder, HeadUnder}
use Rattle.queue.specs.theorems.OlderKinds.{narrow_enc, rec_enc, rec_fore, rec_mid, head_tail, head_first}
use Rattle.queue.specs.Areas.{kind_of, read_image, image}
use Rattle.queue.specs.theorems.Bound.{reads_told}
use Rattle.queue.specs.check.RulesAs.{sum, weight}
use Rattle.queue.specs.check.AreaAs.{StoreAs}
use Rattle.queue.specs.bytes.OrderLaws.{same_is, same_self}
use Rattle.queue.specs.Lists.{and_true}
use Rattle.queue.specs.theorems.Plain.{bytes_plain, shares_plain, image_plain}
use Rattle.queue.specs.layout.LimitsAs.{shares_long}
use Rattle.queue.specs.paper.Records.{Bytes, Limits, Held, Rec, Queue}
use Rattle.queue.specs.paper.Lists.{is_some, is_empty?, one, all?}
use Rattle.queue.specs.paper.Ids.{same?}
use Rattle.queue.specs.paper.Kinds.{newest, oldest, fits32?, mark_said?, caller_said?, reads_said?, priority_said?, rec_said?, shares_said?, first_share, says?}
use Rattle.queue.specs.paper.Sound.{reads, content}
use Rattle.queue.specs.paper.Calls.{numbers}
use Rattle.queue.specs.paper.Area.{shares_bytes, image_under, over}
use Rattle.queue.proofs.layout.LimitsLaws.{shares_bytes_law, shares_first}
use Rattle.queue.proofs.layout.TurnLaws.{SeenForm, FoundForm}
use Rattle.image.specs.declared.text.Text.{Text}
use Rattle.image.specs.declared.back.Cut.{Cut}
use Rattle.image.specs.ImageAs.{TextIn, FrameIn, priority_from_value, said_f, store_said, CutIn, CutAt, Told, SaidIs, OldRecRoom, OldRoom, OldPut, OldLen, OldRecPut}
use Rattle.image.specs.paper.Image.{read_newest, convert_of}
use Rattle.image.proofs.ImageLaws.{slice, slice_end, be_size, front_long, fore_long, empty_ids, tail_parts, Turning, turn_here, turn_room, turn_on, put_over, in_view}

-- ---- what kind 01 can say of a record
empty_length : {A : Type 0} (l : List A) → eqb (length l) 0 ≡ is_empty? l
empty_length [] = refl
empty_length (a ∷ l) = ne_eqb (suc (length l)) 0 (λ e. omega arith)

pub said_facts : (f : Facts) (r : Rec) → f ≡ facts_of r → said_f f ≡ rec_said? oldest r
unfolding said_f facts_of
said_facts f r e = rw e (ap (λ (b : Bool). fits32? r.terms.priority && (eqb r.caller 0 && (not (eqb r.mark 3) && b))) (empty_length (reads r.body)))

-- ---- the loop over the records
module _ (s : Bytes) (n at : ℕ) where
  abbrev rest : ℕ → ℕ → Bool
  rest k i = all? (rec_said? oldest) (list_at (rec_in_value (text_form newest)) k s i)

  pub record Saying (i left : ℕ) : Type 0 where
    pub within : i ≤ length s
    pub all : whole (rec_in_value (text_form newest)) left s i ≡ true
    pub is : rest left i ≡ rest n at

  pub saying : at ≤ length s → whole (rec_in_value (text_form newest)) n s at ≡ true → Saying at n
  saying h w = record { within = h; all = w; is = refl }

  -- a record stands at the place of a turn
  pub saying_stands : {i left : ℕ} → Saying i left → 0 < left → reads? (rec_k newest) (view true s i) 0 ≡ true
  saying_stands {left = left} x p = stands_in (rec_k newest) true s left x.within x.all p

  module _ {i left m : ℕ} {y : Seen} (x : Saying i left) (p : 0 < left) (r : FoundForm (text_form newest) s i m y) where
    turn : Turn (rec_in_value (text_form newest)) s left i (after_in_value true s i m) (SeenForm (text_form newest) s i m y)
    turn = turn_in true left x.within x.all p r

    split : rest left i ≡ (said_f y.facts && rest (left - 1) (after_in_value true s i m))
    split = ap (all? (rec_said? oldest)) turn.list ∙ ap (λ (b : Bool). b && rest (left - 1) (after_in_value true s i m)) (sym (said_facts y.facts turn.item turn.is.0.facts))

    pub saying_size : m ≤ length (view true s i)
    saying_size = turn.is.1.within

    pub saying_no : {b : Bool} → b ≡ said_f y.facts → b ≡ false → false ≡ rest n at
    saying_no e f = sym (sym x.is ∙ split ∙ ap (λ (c : Bool). c && rest (left - 1) (after_in_value true s i m)) (sym e ∙ f))

    pub saying_on : {b : Bool} {j : ℕ} → b ≡ said_f y.facts → b ≡ true → j ≡ after_in_value true s i m → Saying j (left - 1)
    saying_on e t g = rw g (record {
      within = turn.within;
      all = turn.rest;
      is = sym (split ∙ ap (λ (c : Bool). c && rest (left - 1) (after_in_value true s i m)) (sym e ∙ t)) ∙ x.is;
    })

  pub saying_end : {i left : ℕ} → Saying i left → left ≡ 0 → true ≡ rest n at
  saying_end {i} {left} x z = sym (ap (all? (rec_said? oldest)) (none_left (rec_in_value (text_form newest)) s left i z).0) ∙ x.is

-- ---- the shares
pub first_said : (l : code.Limits) {d' : Bytes} {o : ℕ} {b : Bool} → LimitsFit l → Put (replicate 64 0) 0 (be_last 4 l.p) 4 o d' → b ≡ bytes_eq l.shares d' → b ≡ shares_said? oldest (limits_in l)
first_said l {d'} {o} {b} f y e =
    let u = shares_first f.p y in
    let d = slice_eq-Decides Decides-eqb l.shares d' b e in
    cases b
    (λ t.
    let g : numbers l.shares ≡ first_share l.p = ap numbers (d.0 t) ∙ u.0 in
    t ∙ sym (ap (λ (z : List ℕ). same? z (first_share l.p)) g ∙ same_self (first_share l.p)))
    (λ t. cases (same? (numbers l.shares) (first_share l.p))
    (λ v.
    let g : numbers l.shares ≡ numbers d' = same_is (numbers l.shares) (first_share l.p) v ∙ sym u.0 in
    false_true (sym t ∙ d.1 (sym (shares_bytes_law l.shares f.long f.small) ∙ ap shares_bytes g ∙ shares_bytes_law d' u.1 u.2)))
    (λ v. t ∙ sym v))

pub says_it : {s : Bytes} {x : Open} {a b r : Bool} → a ≡ shares_said? oldest (limits_in x.head.limits) → b ≡ all? (rec_said? oldest) (list_at (rec_in_value (text_form newest)) x.head.count s x.start) → r ≡ (a && b) → SaidIs s x r
unfolding says?
says_it {s} {x} {a} {b} {r} e f g = λ st w. g ∙ cc (e ∙ ap (shares_said? oldest) w.head.lim, f ∙ ap (all? (rec_said? oldest)) w.list)

-- ---- one record
-- the upper half of 64 bits, and the lower one
high : ℕ → Bytes
high p = take 4 (codec.be 8 p)

halves : (p : ℕ) → codec.be 8 p ≡ high p ++ codec.be 4 (low32 p)
unfolding high
halves p = let e : p % 256 ^ 7 % 256 ^ 6 % 256 ^ 5 % 256 ^ 4 ≡ low32 p = omega arith in ap (λ (z : Bytes). take 4 (codec.be 8 p) ++ z) (ap (codec.be 4) e)

signed_size : (o : Option Held) → length (signed_enc o) ≡ cond (is_some o) (4 + length (content o)) 0
unfolding counted_c
signed_size none = refl
signed_size (some h) = length-append (codec.be 4 (length h.bytes)) (encs byte_c h.bytes) ∙ omega (arith, codec.be_length 4 (length h.bytes), ap length (bytes_plain h.bytes))

-- the read ids of one that reads nothing, under the newest kind and under 01
unread_size : (o : Option Held) → reads_said? oldest o ≡ true → length (reads_enc newest o) ≡ cond (is_some o) 2 0
unread_size none e = refl
unread_size (some h) e = ap length (empty_ids h.reads e)

unread_old : (o : Option Held) → reads_enc oldest o ≡ []
unfolding fix_c
unread_old none = refl
unread_old (some h) = refl

said_reads : (r : Rec) → rec_said? oldest r ≡ true → reads_said? oldest r.body ≡ true
said_reads r e =
    let a = and_true (priority_said? oldest r.terms.priority) _ e in
    let b = and_true (caller_said? oldest r.caller) _ a.1 in
    (and_true (mark_said? oldest r.mark) (reads_said? oldest r.body) b.1).1

old_enc : (r : Rec) → (rec_k oldest).enc r ≡ (2 ∷ id_c.enc r.id) ++ (rec_fore r ++ ((codec.be 4 (low32 r.terms.priority) ++ rec_mid r) ++ signed_enc r.body))
unfolding fix_c be_c
old_enc r = rec_enc oldest r ∙ join (2 ∷ id_c.enc r.id) (rec_fore r) (rec_mid r) (signed_enc r.body) (narrow_enc r.terms.priority) (unread_old r.body)
  where
    join : (a b m z : Bytes) {p p' d : Bytes} → p ≡ p' → d ≡ [] → a ++ ([] ++ (b ++ (p ++ (m ++ (d ++ z))))) ≡ a ++ (b ++ ((p' ++ m) ++ z))
    join a b m z {p} {p'} e g = rw (e, g) (ap (λ (y : Bytes). a ++ (b ++ y)) (sym (append_assoc p' m z)))

old_sizes : (a b l m z : Bytes) → length (a ++ (b ++ ((l ++ m) ++ z))) ≡ length a + length b + length l + length m + length z
old_sizes a b l m z = simp length-append (omega arith)

module _ {seen : Bytes} {x : Seen} {r : Rec} (w : SeenUnder newest seen x r) (f : FrameIn (rec_k newest) seen x.size r) (q : rec_said? oldest r ≡ true) where
  abbrev front : Bytes
  front = 2 ∷ id_c.enc r.id

  abbrev caller : Bytes
  caller = (be_c 1).enc r.caller

  abbrev low : Bytes
  low = codec.be 4 (low32 r.terms.priority)

  abbrev pr : ℕ
  pr = priority_from_value newest x.facts

  first_long : length front ≡ 33
  first_long = front_long newest w f

  before_long : 34 + length (rec_fore r) ≡ pr
  before_long = fore_long newest w f

  signed_long : length (signed_enc r.body) ≡ cond x.facts.holder (4 + x.facts.bytes) 0
  unfolding facts_of
  signed_long = signed_size r.body ∙ rw (ap (λ (y : Facts). y.holder) w.facts, ap (λ (y : Facts). y.bytes) w.facts) refl

  unread_long : length (reads_enc newest r.body) ≡ cond x.facts.holder 2 0
  unfolding facts_of
  unread_long = unread_size r.body (said_reads r q) ∙ rw (ap (λ (y : Facts). y.holder) w.facts) refl

  abbrev behind_priority : Bytes
  behind_priority = (low ++ rec_mid r) ++ (reads_enc newest r.body ++ signed_enc r.body)

  parts : take x.size seen ≡ front ++ (caller ++ (rec_fore r ++ (high r.terms.priority ++ behind_priority)))
  unfolding be_c
  parts = f.bytes ∙ rec_enc newest r ∙ join front caller (rec_fore r) (high r.terms.priority) low (rec_mid r) (reads_enc newest r.body ++ signed_enc r.body) (halves r.terms.priority)
    where
      join : (a b c h l m z : Bytes) {p : Bytes} → p ≡ h ++ l → a ++ (b ++ (c ++ (p ++ (m ++ z)))) ≡ a ++ (b ++ (c ++ (h ++ ((l ++ m) ++ z))))
      join a b c h l m z g = rw g (ap (λ (y : Bytes). a ++ (b ++ (c ++ y))) (append_assoc h l (m ++ z) ∙ ap (λ (y : Bytes). h ++ y) (sym (append_assoc l m z))))

  high_long : length (high r.terms.priority) ≡ 4
  unfolding high
  high_long = refl

  total : x.size ≡ pr + 8 + length (rec_mid r) + length (reads_enc newest r.body) + length (signed_enc r.body)
  total =
      sym (length-take-le x.size seen f.within) ∙ ap length parts
      ∙ sizes front caller (rec_fore r) (high r.terms.priority) low (rec_mid r) (reads_enc newest r.body) (signed_enc r.body)
      ∙ omega (arith, first_long, be_size 1 r.caller, before_long, high_long, codec.be_length 4 (low32 r.terms.priority))
    where
      sizes : (a b c h l m d z : Bytes) → length (a ++ (b ++ (c ++ (h ++ ((l ++ m) ++ (d ++ z)))))) ≡ length a + length b + length c + length h + length l + length m + length d + length z
      sizes a b c h l m d z = simp length-append (omega arith)

  -- there is room for what stands at the end
  pub cut_in : CutIn x
  cut_in = record { room = omega (arith, total, signed_long, unread_long); small = w.small.bytes }

  piece_1 : take 33 (drop 0 seen) ≡ front
  piece_1 = (slice seen [] front (caller ++ (rec_fore r ++ (high r.terms.priority ++ behind_priority))) x.size 0 33 parts refl first_long f.within).0

  abbrev ahead : Bytes
  ahead = ((front ++ caller) ++ rec_fore r) ++ high r.terms.priority

  ahead_long : length ahead ≡ pr + 4
  ahead_long =
      length-append ((front ++ caller) ++ rec_fore r) (high r.terms.priority)
      ∙ omega (arith, length-append (front ++ caller) (rec_fore r), length-append front caller, first_long, be_size 1 r.caller, before_long, high_long)

  join_ahead : (a b c h z : Bytes) → a ++ (b ++ (c ++ (h ++ z))) ≡ (((a ++ b) ++ c) ++ h) ++ z
  join_ahead a b c h z = sym (simp append_assoc)

  module _ {c : Cut} (k : CutAt x c) where
    signed_at : c.signed ≡ pr + 8 + length (rec_mid r) + length (reads_enc newest r.body)
    signed_at = omega (arith, total, signed_long, k.signed)

    reads_at : c.reads ≡ pr + 8 + length (rec_mid r)
    reads_at = omega (arith, signed_at, unread_long, k.reads)

    piece_2 : take (c.low - 38) (drop 34 seen) ≡ rec_fore r
    piece_2 =
        (slice seen (front ++ caller) (rec_fore r) (high r.terms.priority ++ behind_priority) x.size 34 (c.low - 38) (parts ∙ sym (append_assoc front caller _))
        (length-append front caller ∙ omega (arith, first_long, be_size 1 r.caller)) (omega (arith, before_long, k.low)) f.within).0

    piece_3 : take (c.reads - c.low) (drop c.low seen) ≡ low ++ rec_mid r
    piece_3 =
        (slice seen ahead (low ++ rec_mid r) (reads_enc newest r.body ++ signed_enc r.body) x.size c.low (c.reads - c.low)
        (parts ∙ join_ahead front caller (rec_fore r) (high r.terms.priority) behind_priority) (ahead_long ∙ sym k.low)
        (length-append low (rec_mid r) ∙ omega (arith, reads_at, k.low, codec.be_length 4 (low32 r.terms.priority))) f.within).0

    piece_4 : take (x.size - c.signed) (drop c.signed seen) ≡ signed_enc r.body
    piece_4 =
        (slice_end seen ((ahead ++ (low ++ rec_mid r)) ++ reads_enc newest r.body) (signed_enc r.body) x.size c.signed
        (parts ∙ join_ahead front caller (rec_fore r) (high r.terms.priority) behind_priority ∙ join_left ahead (low ++ rec_mid r) (reads_enc newest r.body) (signed_enc r.body))
        (length-append (ahead ++ (low ++ rec_mid r)) (reads_enc newest r.body) ∙ omega (arith, length-append ahead (low ++ rec_mid r), length-append low (rec_mid r), ahead_long, signed_at, codec.be_length 4 (low32 r.terms.priority))) f.within).0

    -- where the pieces stand
    pub old_in : (38 ≤ c.low) × (c.low ≤ c.reads) × (c.reads ≤ c.signed) × (c.signed ≤ x.size) × (x.size ≤ length seen)
    old_in = (omega (arith, before_long, k.low), omega (arith, reads_at, k.low), omega (arith, k.reads), omega (arith, k.signed), f.within)

    pub old_line : (rec_in_value (text_form oldest)).enc r
        ≡ (((text_of (take 33 (drop 0 seen)) ++ text_of (take (c.low - 38) (drop 34 seen))) ++ text_of (take (c.reads - c.low) (drop c.low seen))) ++ text_of (take (x.size - c.signed) (drop c.signed seen))) ++ (10 ∷ [])
    unfolding form_c line_enc
    old_line =
        ap (λ (y : Bytes). text_of y ++ (10 ∷ [])) (old_enc r ∙ join_left front (rec_fore r) (low ++ rec_mid r) (signed_enc r.body))
        ∙ ap (λ (y : Bytes). y ++ (10 ∷ [])) (four front (rec_fore r) (low ++ rec_mid r) (signed_enc r.body))
        ∙ sym (pieces (λ (a b c d : Bytes). (((text_of a ++ text_of b) ++ text_of c) ++ text_of d) ++ (10 ∷ [])) piece_1 piece_2 piece_3 piece_4)
      where
        four : (a b c d : Bytes) → text_of (((a ++ b) ++ c) ++ d) ≡ ((text_of a ++ text_of b) ++ text_of c) ++ text_of d
        four a b c d = text_append ((a ++ b) ++ c) d ∙ ap (λ (y : Bytes). y ++ text_of d) (text_append (a ++ b) c ∙ ap (λ (y : Bytes). y ++ text_of c) (text_append a b))

        pieces : (g : Bytes → Bytes → Bytes → Bytes → Bytes) {a a' b b' c c' d d' : Bytes} → a ≡ a' → b ≡ b' → c ≡ c' → d ≡ d' → g a b c d ≡ g a' b' c' d'
        pieces g i j k l = rw (i, j, k, l)

    pub old_size : length ((rec_in_value (text_form oldest)).enc r) ≡ 2 * (33 + (c.low - 38) + (c.reads - c.low) + (x.size - c.signed)) + 1
    unfolding form_c
    old_size =
        line_length (rec_k oldest) r
        ∙ omega (arith, ap length (old_enc r), old_sizes front (rec_fore r) low (rec_mid r) (signed_enc r.body), first_long, before_long, k.low, reads_at, signed_at, total, codec.be_length 4 (low32 r.terms.priority))

-- ---- how long the image is
-- a record's frame is longer under the newest kind by its caller, half of its priority and its count of read ids
old_shorter : (r : Rec) → rec_said? oldest r ≡ true → length ((rec_k newest).enc r) ≡ length ((rec_k oldest).enc r) + 5 + 2 * one (is_some r.body)
unfolding be_c
old_shorter r q =
    ap length (rec_enc newest r)
    ∙ long (2 ∷ id_c.enc r.id) ((be_c 1).enc r.caller) (rec_fore r) ((be_c 8).enc r.terms.priority) (rec_mid r) (reads_enc newest r.body) (signed_enc r.body)
    ∙ omega (arith, be_size 1 r.caller, be_size 8 r.terms.priority, unread_size r.body (said_reads r q), two (is_some r.body), ap length (old_enc r), old_sizes (2 ∷ id_c.enc r.id) (rec_fore r) (codec.be 4 (low32 r.terms.priority)) (rec_mid r) (signed_enc r.body), codec.be_length 4 (low32 r.terms.priority))
  where
    long : (a b c p m d z : Bytes) → length (a ++ (b ++ (c ++ (p ++ (m ++ (d ++ z)))))) ≡ length a + length b + length c + length p + length m + length d + length z
    long a b c p m d z = simp length-append (omega arith)

    two : (b : Bool) → cond b 2 0 ≡ 2 * one b
    two true = refl
    two false = refl

recs_shorter : (l : List Rec) → all? (rec_said? oldest) l ≡ true → length (encs (rec_k newest) l) ≡ length (encs (rec_k oldest) l) + 5 * length l + 2 * sum Holders l
unfolding encs sum weight facts_of
recs_shorter [] q = refl
recs_shorter (r ∷ l) q =
    let t = and_true (rec_said? oldest r) _ q in
    let a = old_shorter r t.0 in
    let b = recs_shorter l t.1 in
    omega (arith, length-append ((rec_k newest).enc r) (encs (rec_k newest) l), length-append ((rec_k oldest).enc r) (encs (rec_k oldest) l))

limits_encs : (k : ℕ) (m : Limits) → (limits_k k).enc m ≡ four_c.enc (m.P, (m.B, (m.T, m.K))) ++ (shares_c k m.P).enc m.shares
unfolding limits_k map_c then_c
limits_encs k m = refl

old_head : (h : Head) → (head_k oldest).enc h ≡ (1 ∷ []) ++ (four_c.enc (h.limits.P, (h.limits.B, (h.limits.T, h.limits.K))) ++ head_tail h)
unfolding fix_c
old_head h = head_first oldest h ∙ ap (λ (y : Bytes). 1 ∷ (y ++ head_tail h)) (limits_encs oldest h.limits ∙ append-nil (four_c.enc (h.limits.P, (h.limits.B, (h.limits.T, h.limits.K)))))

head_shorter : (h : Head) → (head_k newest).ok h → length ((head_k newest).enc h) ≡ length ((head_k oldest).enc h) + 64
unfolding head_k map_c pair_c limits_k then_c sixteen_c vec_c
head_shorter h o =
    let a = ap length (head_first newest h ∙ ap (λ (y : Bytes). newest ∷ (y ++ head_tail h)) (limits_encs newest h.limits)) in
    let b = ap length (old_head h) in
    let c : length (sixteen_c.enc h.limits.shares) ≡ 64 = ap length (shares_plain h.limits.shares) ∙ shares_long h.limits.shares ∙ omega (arith, o.1.0.1.1) in
    let f = four_c.enc (h.limits.P, (h.limits.B, (h.limits.T, h.limits.K))) in
    let s = sixteen_c.enc h.limits.shares in
    omega (arith, length-append (f ++ s) (head_tail h), length-append f s, length-append f (head_tail h))

one_text : text_of (1 ∷ []) ≡ (48 ∷ []) ++ (49 ∷ [])
unfolding text_of dig_of
one_text = refl

-- ---- the header
module _ {v : Bytes} {x : code_head.Head} {h : Head} (w : HeadUnder newest v x h) where
  abbrev four : Bytes
  four = four_c.enc (h.limits.P, (h.limits.B, (h.limits.T, h.limits.K)))

  four_long : length four ≡ 16
  unfolding four_c pair_c
  four_long =
      sizes ((be_c 4).enc h.limits.P) ((be_c 4).enc h.limits.B) ((be_c 4).enc h.limits.T) ((be_c 4).enc h.limits.K)
      ∙ omega (arith, be_size 4 h.limits.P, be_size 4 h.limits.B, be_size 4 h.limits.T, be_size 4 h.limits.K)
    where
      sizes : (a b c d : Bytes) → length (a ++ (b ++ (c ++ d))) ≡ length a + length b + length c + length d
      sizes a b c d = simp length-append (omega arith)

  the_four : take 16 (drop 1 v) ≡ four
  the_four =
      ap (take 16) (w.limits ∙ ap (λ (y : Bytes). y ++ drop 81 v) (limits_encs newest h.limits) ∙ append_assoc four ((shares_c newest h.limits.P).enc h.limits.shares) (drop 81 v))
      ∙ take_at four _ 16 four_long

  abbrev from : ℕ
  from = x.marks - 8

  pub old_head_in : (8 ≤ x.marks) × (1 + 16 ≤ length v) × (from ≤ x.size) × (x.size ≤ length v)
  old_head_in = (omega (arith, w.marks_at), omega (arith, w.marks_at, w.up, w.size_at, w.end), omega (arith, w.marks_at, w.up, w.size_at), w.end)

  pub old_head_line : (head_in (text_form oldest)).enc h ≡ ((((48 ∷ []) ++ (49 ∷ [])) ++ text_of (take 16 (drop 1 v))) ++ text_of (take (x.size - from) (drop from v))) ++ (10 ∷ [])
  unfolding form_c line_enc
  old_head_line =
      ap (λ (y : Bytes). text_of y ++ (10 ∷ [])) (old_head h)
      ∙ ap (λ (y : Bytes). y ++ (10 ∷ [])) (three (1 ∷ []) four (head_tail h))
      ∙ sym (ap (λ (y : Bytes). ((text_of (1 ∷ []) ++ text_of y) ++ text_of (take (x.size - from) (drop from v))) ++ (10 ∷ [])) the_four
      ∙ ap (λ (y : Bytes). ((text_of (1 ∷ []) ++ text_of four) ++ text_of y) ++ (10 ∷ [])) (tail_parts newest w).0)
      ∙ ap (λ (y : Bytes). ((y ++ text_of (take 16 (drop 1 v))) ++ text_of (take (x.size - from) (drop from v))) ++ (10 ∷ [])) one_text
    where
      three : (a b c : Bytes) → text_of (a ++ (b ++ c)) ≡ (text_of a ++ text_of b) ++ text_of c
      three a b c = text_append a (b ++ c) ∙ ap (λ (y : Bytes). text_of a ++ y) (text_append b c) ∙ sym (append_assoc (text_of a) (text_of b) (text_of c))

  pub old_head_size : length ((head_in (text_form oldest)).enc h) ≡ 2 * (17 + (x.size - from)) + 1
  unfolding form_c
  old_head_size = line_length (head_k oldest) h ∙ omega (arith, ap length (old_head h), length-append four (head_tail h), four_long, (tail_parts newest w).1)

-- ---- all frames
module _ (s : Bytes) (n at : ℕ) (d₀ : Bytes) (to : ℕ) where
  -- the loop that writes the records, and what is left can be said
  abbrev pub Olding : ℕ → ℕ → Bytes → ℕ → Type 0
  Olding i left d o = Turning (text_form newest) (rec_in_value (text_form oldest)) s n at d₀ to i left d o × (all? (rec_said? oldest) (list_at (rec_in_value (text_form newest)) left s i) ≡ true)

  module _ {i left o : ℕ} {d : Bytes} {y : Seen} (x : Olding i left d o) (p : 0 < left) (r : FoundForm (text_form newest) s i y.size y) where
    abbrev here : Turn (rec_in_value (text_form newest)) s left i (after_in_value true s i y.size) (SeenForm (text_form newest) s i y.size y)
    here = turn_here (text_form newest) (rec_in_value (text_form oldest)) s n at d₀ to x.0 p r

    both_said : (rec_said? oldest here.item ≡ true) × (all? (rec_said? oldest) (list_at (rec_in_value (text_form newest)) (left - 1) s (after_in_value true s i y.size)) ≡ true)
    both_said = and_true (rec_said? oldest here.item) _ (sym (ap (all? (rec_said? oldest)) here.list) ∙ x.1)

    pub olding_room : to + length (encs (rec_in_value (text_form oldest)) (list_at (rec_in_value (text_form newest)) n s at)) ≤ length d₀ → OldRecRoom (view true s i) y o (length d)
    olding_room h = record {
      rec = here.item;
      is = here.is.0;
      frame = in_view here.is.1;
      said = both_said.0;
      room = turn_room (text_form newest) (rec_in_value (text_form oldest)) s n at d₀ to x.0 p r h;
    }

    pub olding_on : {d' : Bytes} {q j : ℕ} → OldRecPut (view true s i) y d o q d' → j ≡ after_in_value true s i y.size → Olding j (left - 1) d' q
    olding_on w e = (
      turn_on (text_form newest) (rec_in_value (text_form oldest)) s n at d₀ to x.0 p r (w here.item here.is.0 (in_view here.is.1) both_said.0) e,
      ap (λ (k : ℕ). all? (rec_said? oldest) (list_at (rec_in_value (text_form newest)) (left - 1) s k)) e ∙ both_said.1,
    )

pub store_recs_said : (st : Store) → store_said st ≡ true → all? (rec_said? oldest) st.recs ≡ true
unfolding says?
store_recs_said st e = (and_true (shares_said? oldest st.limits) _ e).1

head_line : (k : ℕ) (h : Head) → length (line_enc (head_k k) h) ≡ 2 * length ((head_k k).enc h) + 1
unfolding form_c
head_line k h = line_length (head_k k) h

image_length : (k : ℕ) (q : Queue) → length (image_under k q) ≡ 2 * length ((head_k k).enc (head_for (store_of q))) + 1 + (2 * length (encs (rec_k k) q.recs) + length q.recs)
unfolding image
image_length k q =
    let e : length (image_under k q) ≡ length (line_enc (head_k k) (head_for (store_of q)) ++ encs (rec_in_value (text_form k)) q.recs) = sym (ap length (image_plain k q)) ∙ ap length (image_enc k (store_of q)) in
    omega (arith, length-append (line_enc (head_k k) (head_for (store_of q))) (encs (rec_in_value (text_form k)) q.recs), head_line k (head_for (store_of q)), lines_length (rec_k k) q.recs)

pub image_shorter : (q : Queue) → queue_c.ok q → says? oldest q ≡ true → length (image_under newest q) ≡ length (image_under oldest q) + (128 + 10 * length q.recs + 4 * sum Holders q.recs)
unfolding says?
image_shorter q o e =
    let a = image_length newest q in
    let b = image_length oldest q in
    let c = head_shorter (head_for (store_of q)) (ok_store area_form (store_of q) (ok_queue q o).1).0 in
    let d = recs_shorter q.recs (store_recs_said (store_of q) e) in
    omega arith

-- ---- the converter
no_choice : {A : Type 0} (b : Bool) → cond {A = Option A} b none none ≡ none
no_choice true = refl
no_choice false = refl

pub back_none : (s out : Bytes) (old : ℕ) → read_image s ≡ none → (Refused 16, (out, old)) ≡ convert_of s out old
unfolding convert_of read_newest
back_none s out old e = rw (e, no_choice {A = Queue} (eqb (kind_of s) newest))

module _ {s : Bytes} {t : Text} (w : TextIn s t) (out : Bytes) (old : ℕ) where
  abbrev the_queue : Queue
  the_queue = w.q

  pub back_other : (t.form.kind ≡ newest → ⊥) → (Refused 16, (out, old)) ≡ convert_of s out old
  unfolding convert_of read_newest
  back_other n = rw (ne_eqb (kind_of s) newest (λ z. n (ap (λ (f : Form). f.kind) w.read.told ∙ z)))

  old_image : (store_in (text_form oldest)).enc (store_of the_queue) ≡ image_under oldest the_queue
  unfolding image
  old_image = image_plain oldest the_queue

  module _ (k : t.form.kind ≡ newest) where
    kind_told : kind_of s ≡ newest
    kind_told = sym (ap (λ (f : Form). f.kind) w.read.told) ∙ k

    newest_read : read_newest s ≡ some the_queue
    unfolding read_newest
    newest_read = rw (eq-eqb (kind_of s) newest kind_told) w.is

    store_told : StoreAs (text_form newest) s 0 t.open (store_of the_queue)
    store_told = let f : t.form ≡ text_form newest = w.read.told ∙ ap text_form kind_told in rw f at w.read.store

    pub back_told : Told s t.open
    back_told = record { store = store_of the_queue; is = store_told }

    says_store : says? oldest the_queue ≡ store_said (store_of the_queue)
    unfolding says?
    says_store = refl

    said_this : {b : Bool} → SaidIs s t.open b → b ≡ says? oldest the_queue
    said_this d = d (store_of the_queue) store_told ∙ sym says_store

    pub back_22 : {b : Bool} → SaidIs s t.open b → b ≡ false → (Refused 22, (out, old)) ≡ convert_of s out old
    unfolding convert_of
    back_22 d f = rw (newest_read, sym (said_this d) ∙ f)

    module _ {b : Bool} (d : SaidIs s t.open b) (f : b ≡ true) where
      yes : says? oldest the_queue ≡ true
      yes = sym (said_this d) ∙ f

      text_long : length s ≡ length (image_under oldest the_queue) + (128 + 10 * t.open.head.count + 4 * t.open.sums.holders)
      text_long =
          let a : s ≡ image_under newest the_queue = (reads_told s the_queue w.is).1 ∙ ap (λ (j : ℕ). image_under j the_queue) kind_told in
          let c : sum Holders the_queue.recs ≡ t.open.sums.holders = sym (store_told.sums.holders ∙ ap (sum Holders) store_told.list) in
          omega (arith, ap length a, image_shorter the_queue w.read.range yes, c, store_told.count)

      pub back_len : OldLen (length s) t.open
      back_len = omega (arith, text_long)

      module _ {n : ℕ} (l : length s ≡ n + (128 + 10 * t.open.head.count + 4 * t.open.sums.holders)) where
        long_is : n ≡ length (image_under oldest the_queue)
        long_is = omega (arith, text_long)

        pub back_4 : length out < n → (Refused 4, (out, old)) ≡ convert_of s out old
        unfolding convert_of
        back_4 h = rw (newest_read, yes, ← long_is, lt-ltb (length out) n h)

        pub back_room : n ≤ length out → OldRoom s t.open (length out)
        back_room h = record { store = store_of the_queue; is = store_told; said = sym says_store ∙ yes; room = omega (arith, ap length old_image, long_is) }

        pub back_done : {out' : Bytes} {r : ℕ} → n ≤ length out → OldPut s t.open out r out' → (Done Nothing, (out', n)) ≡ convert_of s out old
        unfolding convert_of
        back_done {out'} h p =
            let i : out' ≡ over ((store_in (text_form oldest)).enc (store_of the_queue)) out = put_over (p (store_of the_queue) store_told (sym says_store ∙ yes)) (omega (arith, ap length old_image, long_is)) in
            let o : out' ≡ over (image_under oldest the_queue) out = i ∙ ap (λ (y : Bytes). over y out) old_image in
            rw (newest_read, yes, ← long_is, le-ltb (length out) n h) (ap (λ (y : Bytes). (Done Nothing, (y, n))) o)

-- a text of another kind than the newest
pub another_kind : {s out : Bytes} {t : Text} → TextIn s t → (t.form.kind ≡ newest → ⊥) → (old : ℕ) → (Refused 16, (out, old)) ≡ convert_of s out old
another_kind {out = out} w n old = back_other w out old n

-- what is asked of `said`: the queue of a text of the newest kind
pub newest_told : {s : Bytes} {t : Text} → TextIn s t → t.form.kind ≡ newest → Told s t.open
newest_told w k = back_told w [] 0 k

-- What the converter accepts opens in the base as the same queue, and what the base wrote comes back as it was.
use Rattle.std.specs.Prelude.{◌≡◌, refl, Bool, true, false, cond, not, ◌&&◌, List, [], ◌∷◌, ◌++◌, ℕ, ◌^◌, ◌<◌, ltb, leb, eqb, length, take, drop}
use Rattle.std.proofs.Common.{ap, sym, ◌∙◌, append_assoc, arith, take_at, le-leb, le-ltb, eqb-true}
use Rattle.std.proofs.Math.Option.{Option, none, some}
use Rattle.queue.specs.Basics.{any_same}
use Rattle.queue.specs.paper.Answer.{Answer, Refused, Done}
use Rattle.queue.specs.declared.Kind.TheVariants.{Nothing}
use Rattle.queue.specs.Codec.{Codec, All, cases, cond_cases, byte_c, be, be_c, pair_c, map_c, opt_c, vec_c, counted_c}
use Rattle.queue.specs.layout.Choice.{then_c}
use Rattle.queue.specs.layout.FrameCodec.{id_c, label_c, low32, widen_low, low_widen, terms_k, place_c, held_k, body_k, body_c, four_c, limits_k, head_k}
use Rattle.queue.specs.layout.FormsCodec.{area_form, store_of, queue_c, ok_store, ok_queue}
use Rattle.queue.specs.theorems.Plain.{image_plain}
use Rattle.queue.specs.Areas.{kind_of, read_image, shows_kind}
use Rattle.queue.specs.theorems.Bound.{image_reads, reads_image}
use Rattle.queue.specs.theorems.OlderKinds.{newest_says}
use Rattle.queue.specs.theorems.SoundParts.{Fields, sound_of_law, Fit, fit_of, fit_ok}
use Rattle.queue.specs.bytes.ListLaws.{map_length}
use Rattle.queue.specs.Lists.{and_true, and_both}
use Rattle.queue.specs.bytes.ReaderLaws.{false_true}
use Rattle.queue.specs.bytes.OrderLaws.{same_is, same_self}
use Rattle.queue.specs.paper.Base as base
use Rattle.queue.specs.paper.Records.{Bytes, Id, Terms, Held, Rec, Queue}
use Rattle.queue.specs.paper.Lists.{maybe, is_some, is_empty?, one, all?, any?, total, count, map, concat}
use Rattle.queue.specs.paper.Ids.{below?, rise?}
use Rattle.queue.specs.paper.Sound.{in_range, shares_right?, holder?, inputs, outputs, reads, content, label_len, stamped?, among?, used?, clash?, apart?, read?, crossed?, read_apart?, distinct?, right?, counts?, sound?}
use Rattle.queue.specs.paper.Kinds.{newest, oldest, fits32?, mark_said?, caller_said?, reads_said?, priority_said?, rec_said?, shares_said?, first_share, says?}
use Rattle.queue.specs.paper.Area.{flagged, terms_under, place_bytes, held_under, rec_under, head_under, line, image_under, image_bytes, over}
use Rattle.image.specs.paper.Image.{read_newest, convert_of}
use Rattle.image.specs.paper.Back.{today_terms, today_body, today_rec, today_limits, today, OpensThere, ComesBack}

-- ---- lists that are mapped
total_map : {A B : Type 0} (t : A → B) (f : B → ℕ) (g : A → ℕ) → ((a : A) → f (t a) ≡ g a) → (l : List A) → total f (map t l) ≡ total g l
total_map t f g h [] = refl
total_map t f g h (a ∷ l) = rw (h a, total_map t f g h l)

any_map : {A B : Type 0} (t : A → B) (p : B → Bool) (q : A → Bool) → ((a : A) → p (t a) ≡ q a) → (l : List A) → any? p (map t l) ≡ any? q l
any_map t p q h [] = refl
any_map t p q h (a ∷ l) = rw (h a, any_map t p q h l)

any_none : {A : Type 0} (p : A → Bool) → ((a : A) → p a ≡ false) → (l : List A) → any? p l ≡ false
any_none p h [] = refl
any_none p h (a ∷ l) = rw (h a, any_none p h l)

and_one : (b : Bool) → (b && true) ≡ b
and_one true = refl
and_one false = refl

-- ---- what a record holds
some_same : (o : Option base.Held) → is_some (today_body o) ≡ is_some o
some_same none = refl
some_same (some h) = refl

ins_same : (o : Option base.Held) → inputs (today_body o) ≡ base.inputs o
ins_same none = refl
ins_same (some h) = refl

outs_same : (o : Option base.Held) → outputs (today_body o) ≡ base.outputs o
outs_same none = refl
outs_same (some h) = refl

reads_none : (o : Option base.Held) → reads (today_body o) ≡ []
reads_none none = refl
reads_none (some h) = refl

content_same : (o : Option base.Held) → content (today_body o) ≡ base.content o
content_same none = refl
content_same (some h) = refl

label_same : (o : Option Bytes) → label_len o ≡ base.label_len o
label_same none = refl
label_same (some l) = refl

-- ---- the rules of a sound queue
abbrev plain_mark : base.Rec → Bool
plain_mark r = not (eqb r.mark 3)

right_same : (K c : ℕ) (r : base.Rec) → plain_mark r ≡ true → right? K c (today_rec r) ≡ base.right? K c r
unfolding right? base.right?
right_same K c r e = cases (eqb r.mark 3)
    (λ t. let z : not (eqb r.mark 3) ≡ false = rw t in false_true (sym z ∙ e))
    (λ t. rw (some_same r.body, ins_same r.body, outs_same r.body, reads_none r.body, content_same r.body, label_same r.terms.label, t, le-leb 0 K (omega arith), and_one (leb (length (base.outputs r.body)) K)))

rights_same : (K c : ℕ) (l : List base.Rec) → all? plain_mark l ≡ true → all? (right? K c) (map today_rec l) ≡ all? (base.right? K c) l
rights_same K c [] e = refl
rights_same K c (r ∷ l) e = let t = and_true (plain_mark r) _ e in rw (right_same K c r t.0, rights_same K c l t.1)

rise_same : (l : List base.Rec) → rise? (map (λ r. r.id) (map today_rec l)) ≡ base.rising? l
unfolding rise? base.rising?
rise_same [] = refl
rise_same (r ∷ []) = refl
rise_same (r ∷ x ∷ l) = ap (λ (b : Bool). below? r.id x.id && b) (rise_same (x ∷ l))

stamp_same : (n : ℕ) (l : List base.Rec) → count (stamped? n) (map today_rec l) ≡ count (base.stamped? n) l
stamp_same n l = total_map today_rec _ _ (λ r. rw (some_same r.body)) l

distinct_same : (l : List base.Rec) → distinct? (map today_rec l) ≡ base.distinct? l
unfolding distinct? base.distinct?
distinct_same [] = refl
distinct_same (r ∷ l) = rw (some_same r.body, stamp_same r.finish l, distinct_same l)

used_same : (i : Id) (l : List base.Rec) → used? i (map today_rec l) ≡ base.used? i l
unfolding used? base.used?
used_same i l = any_map today_rec _ _ (λ r. ap (among? i) (ins_same r.body)) l

clash_same : (ids : List Id) (l : List base.Rec) → clash? ids (map today_rec l) ≡ base.clash? ids l
unfolding clash? base.clash?
clash_same ids l = any_same _ _ (λ i. used_same i l) ids

apart_same : (l : List base.Rec) → apart? (map today_rec l) ≡ base.apart? l
unfolding apart? base.apart?
apart_same [] = refl
apart_same (r ∷ l) = rw (ins_same r.body, clash_same (base.inputs r.body) l, apart_same l)

unread : (i : Id) (l : List base.Rec) → read? i (map today_rec l) ≡ false
unfolding read?
unread i [] = refl
unread i (r ∷ l) = rw (reads_none r.body, unread i l)

read_apart_law : (l : List base.Rec) → read_apart? (map today_rec l) ≡ true
unfolding read_apart? crossed? clash?
read_apart_law [] = refl
read_apart_law (r ∷ l) = rw (reads_none r.body, any_none (λ i. read? i (map today_rec l)) (λ i. unread i l) (inputs (today_body r.body)), read_apart_law l)

counts_same : (m : base.Limits) (l : List base.Rec) → counts? (today_limits m) (map today_rec l) ≡ base.counts? m l
unfolding counts? base.counts?
counts_same m l = rw (
  map_length today_rec l,
  total_map today_rec (λ r. one (holder? r)) (λ r. one (base.holder? r)) (λ r. rw (some_same r.body)) l,
  total_map today_rec (λ r. length (content r.body)) (λ r. length (base.content r.body)) (λ r. rw (content_same r.body)) l,
  total_map today_rec (λ r. one (eqb r.state 2 && holder? r)) (λ r. one (eqb r.state 2 && base.holder? r)) (λ r. rw (some_same r.body)) l,
  total_map today_rec (λ r. cond (eqb r.state 2) (length (content r.body)) 0) (λ r. cond (eqb r.state 2) (length (base.content r.body)) 0) (λ r. rw (content_same r.body)) l,
  total_map today_rec (λ r. one (not (holder? r))) (λ r. one (not (base.holder? r))) (λ r. rw (some_same r.body)) l,
)

range_same : (m : base.Limits) → in_range (today_limits m) ≡ base.in_range m
unfolding in_range base.in_range
range_same m = refl

first_right : (m : base.Limits) → shares_right? (today_limits m) ≡ true
unfolding shares_right?
first_right m = rw (le-leb m.P m.P (omega arith), le-leb 0 m.P (omega arith))

pub sound_same : (b : base.Queue) → all? plain_mark b.recs ≡ true → sound? (today b) ≡ base.sound? b
unfolding sound? base.sound?
sound_same b e = rw (
  range_same b.limits,
  first_right b.limits,
  and_one (base.in_range b.limits),
  counts_same b.limits b.recs,
  rights_same b.limits.K b.counter b.recs e,
  rise_same b.recs,
  distinct_same b.recs,
  apart_same b.recs,
  read_apart_law b.recs,
  and_one (base.apart? b.recs),
)

-- ---- what kind 01 can say
no_three : (state : ℕ) (holds : Bool) (mark : ℕ) → base.mark_right? state holds mark ≡ true → not (eqb mark 3) ≡ true
no_three state holds mark e = cases (eqb mark 3)
    (λ t. let z = eqb-true mark 3 t in let f : base.mark_right? state holds 3 ≡ true = sym (ap (base.mark_right? state holds) z) ∙ e in false_true f)
    (λ t. rw t)

mark_plain : (K c : ℕ) (r : base.Rec) → base.right? K c r ≡ true → plain_mark r ≡ true
unfolding base.right?
mark_plain K c r e =
    let a = and_true ((base.held_right? r.state (base.holder? r) && base.reason_right? r.state r.reason) && (base.place_right? r.state (is_some r.place) && base.mark_right? r.state (base.holder? r) r.mark)) _ e in
    let b = and_true (base.held_right? r.state (base.holder? r) && base.reason_right? r.state r.reason) _ a.0 in
    no_three r.state (base.holder? r) r.mark (and_true (base.place_right? r.state (is_some r.place)) _ b.1).1

marks_plain : (K c : ℕ) (l : List base.Rec) → all? (base.right? K c) l ≡ true → all? plain_mark l ≡ true
marks_plain K c [] e = refl
marks_plain K c (r ∷ l) e = let t = and_true (base.right? K c r) _ e in and_both (plain_mark r) _ (mark_plain K c r t.0) (marks_plain K c l t.1)

pub plain_marks : (b : base.Queue) → base.sound? b ≡ true → all? plain_mark b.recs ≡ true
unfolding base.sound?
plain_marks b e =
    let u = and_true (base.in_range b.limits) _ e in
    let v = and_true (base.counts? b.limits b.recs) _ u.1 in
    marks_plain b.limits.K b.counter b.recs (and_true (all? (base.right? b.limits.K b.counter) b.recs) _ v.1).0

rec_sayable : (r : base.Rec) → base.RecFits r → plain_mark r ≡ true → rec_said? oldest (today_rec r) ≡ true
rec_sayable r f e = rw ((widen_low r.terms.priority f.terms.priority).1.0, e, reads_none r.body)

recs_sayable : (l : List base.Rec) → All base.RecFits l → all? plain_mark l ≡ true → all? (rec_said? oldest) (map today_rec l) ≡ true
recs_sayable [] f e = refl
recs_sayable (r ∷ l) f e = let t = and_true (plain_mark r) _ e in and_both (rec_said? oldest (today_rec r)) _ (rec_sayable r f.0 t.0) (recs_sayable l f.1 t.1)

pub sayable : (b : base.Queue) → base.Fits b → all? plain_mark b.recs ≡ true → says? oldest (today b) ≡ true
unfolding says?
sayable b f e = and_both (shares_said? oldest (today_limits b.limits)) _ (same_self (first_share b.limits.P)) (recs_sayable b.recs f.recs e)

-- ---- the bytes
flag_same : {A : Type 0} (f : A → Bytes) (o : Option A) → flagged f o ≡ base.flagged f o
flag_same f none = refl
flag_same f (some a) = refl

terms_same : (t : base.Terms) → t.priority < 256 ^ 4 → terms_under oldest (today_terms t) ≡ base.terms_bytes t
unfolding terms_under base.terms_bytes
terms_same t h = rw (flag_same (be 8) t.due, flag_same (be 4) t.due_height, flag_same (λ l. be 1 (length l) ++ l) t.label, (widen_low t.priority h).0)

held_same : (o : Option base.Held) → flagged (held_under oldest) (today_body o) ≡ base.flagged base.held_bytes o
unfolding held_under base.held_bytes
held_same none = refl
held_same (some h) = ap (λ (x : Bytes). 1 ∷ x) (simp append_assoc)

place_same : (o : Option (ℕ × Id)) → place_bytes o ≡ base.place_bytes o
unfolding place_bytes base.place_bytes
place_same o = flag_same (λ p. be 4 p.0 ++ p.1) o

rec_bytes_same : (r : base.Rec) → r.terms.priority < 256 ^ 4 → rec_under oldest (today_rec r) ≡ base.rec_bytes r
unfolding rec_under base.rec_bytes
rec_bytes_same r h = rw (terms_same r.terms h, place_same r.place, held_same r.body)

lines_same : (l : List base.Rec) → All base.RecFits l → concat (map (λ r. line (rec_under oldest r)) (map today_rec l)) ≡ concat (map (λ r. base.line (base.rec_bytes r)) l)
lines_same [] f = refl
lines_same (r ∷ l) f = rw (rec_bytes_same r f.0.terms.priority, lines_same l f.1)

head_same : (b : base.Queue) → head_under oldest (today b) ≡ base.head_bytes b
unfolding head_under base.head_bytes
head_same b = rw (flag_same (λ (i : Id). i) b.tip, map_length today_rec b.recs)

pub image_same : (b : base.Queue) → base.Fits b → image_under oldest (today b) ≡ base.image_bytes b
unfolding image_under base.image_bytes
image_same b f = rw (head_same b, lines_same b.recs f.recs)

-- ---- numbers that fit their fields
opt_ok_law : {A : Type 0} (𝓐 : Codec A) (P : A → Type 0) → ((a : A) → P a → 𝓐.ok a) → (o : Option A) → base.Maybe P o → (opt_c 𝓐).ok o
unfolding opt_c
opt_ok_law 𝓐 P f none h = h
opt_ok_law 𝓐 P f (some a) h = f a h

ok_opt : {A : Type 0} (𝓐 : Codec A) (P : A → Type 0) → ((a : A) → 𝓐.ok a → P a) → (o : Option A) → (opt_c 𝓐).ok o → base.Maybe P o
unfolding opt_c
ok_opt 𝓐 P f none h = h
ok_opt 𝓐 P f (some a) h = f a h

id_ok : (i : Id) → base.IdFits i → id_c.ok i
unfolding id_c vec_c byte_c
id_ok i h = h

ok_id : (i : Id) → id_c.ok i → base.IdFits i
unfolding id_c vec_c byte_c
ok_id i h = h

ids_ok : (l : List Id) → All base.IdFits l → All id_c.ok l
ids_ok [] h = tt
ids_ok (i ∷ l) h = (id_ok i h.0, ids_ok l h.1)

ok_ids : (l : List Id) → All id_c.ok l → All base.IdFits l
ok_ids [] h = tt
ok_ids (i ∷ l) h = (ok_id i h.0, ok_ids l h.1)

terms_ok : (t : base.Terms) → base.TermsFit t → (terms_k newest).ok (today_terms t)
unfolding terms_k label_c map_c pair_c be_c counted_c byte_c
terms_ok t h = (
  h.created,
  (
    opt_ok_law (be_c 8) (λ n. n < 256 ^ 8) (λ n k. k) t.due h.due,
    (
      opt_ok_law (be_c 4) (λ n. n < 256 ^ 4) (λ n k. k) t.due_height h.due_height,
      (
        (widen_low t.priority h.priority).1.1,
        (opt_ok_law (counted_c byte_c 1) (λ l. base.Small l × (length l < 256 ^ 1)) (λ l k. k) t.label h.label, (h.fee, (h.size, h.cost))),
      ),
    ),
  ),
)

body_ok : (o : Option base.Held) → base.Maybe base.HeldFits o → body_c.ok (today_body o)
unfolding body_k held_k opt_c map_c pair_c counted_c byte_c
body_ok none h = h
body_ok (some x) h = ((ids_ok x.ins h.ins.0, h.ins.1), ((ids_ok x.outs h.outs.0, h.outs.1), ((tt, omega arith), h.bytes)))

place_ok : (o : Option (ℕ × Id)) → base.Maybe (λ p. (p.0 < 256 ^ 4) × base.IdFits p.1) o → place_c.ok o
unfolding place_c pair_c be_c
place_ok o h = opt_ok_law (pair_c (be_c 4) id_c) (λ p. (p.0 < 256 ^ 4) × base.IdFits p.1) (λ p k. (k.0, id_ok p.1 k.1)) o h

rec_fields : (r : base.Rec) → base.RecFits r → Fields (today_rec r)
rec_fields r h = record {
  id = id_ok r.id h.id;
  caller = omega arith;
  state = omega (arith, h.state);
  reason = omega (arith, h.reason);
  terms = terms_ok r.terms h.terms;
  place = place_ok r.place h.place;
  mark = omega (arith, h.mark);
  finish = h.finish;
  body = body_ok r.body h.body;
}

recs_fields : (l : List base.Rec) → All base.RecFits l → All Fields (map today_rec l)
recs_fields [] h = tt
recs_fields (r ∷ l) h = (rec_fields r h.0, recs_fields l h.1)

today_fit : (b : base.Queue) → base.Fits b → b.persisted ≡ b.cursor → sound? (today b) ≡ true → Fit (today b)
today_fit b f l e = record {
  sound = sound_of_law (today b) e;
  persisted = omega (arith, l, f.cursor);
  revision = f.revision;
  cursor = f.cursor;
  tip = opt_ok_law id_c base.IdFits id_ok b.tip f.tip;
  counter = f.counter;
  recs = recs_fields b.recs f.recs;
}

-- ---- the queue of the base that a queue of today is
abbrev down_terms : Terms → base.Terms
down_terms t = record {
  created = t.created;
  due = t.due;
  due_height = t.due_height;
  priority = low32 t.priority;
  label = t.label;
  fee = t.fee;
  size = t.size;
  cost = t.cost;
}

abbrev down_body : Option Held → Option base.Held
down_body none = none
down_body (some h) = some (record { ins = h.ins; outs = h.outs; bytes = h.bytes })

abbrev down_rec : Rec → base.Rec
down_rec r = record {
  id = r.id;
  state = r.state;
  reason = r.reason;
  terms = down_terms r.terms;
  place = r.place;
  mark = r.mark;
  finish = r.finish;
  body = down_body r.body;
}

abbrev down : Queue → base.Queue
down q = record {
  persisted = q.persisted;
  limits = record { P = q.limits.P; B = q.limits.B; T = q.limits.T; K = q.limits.K };
  revision = q.revision;
  cursor = q.cursor;
  tip = q.tip;
  counter = q.counter;
  recs = map down_rec q.recs;
}

no_ids : (l : List Id) → is_empty? l ≡ true → l ≡ []
no_ids [] e = refl
no_ids (i ∷ l) e = false_true e

body_back : (o : Option Held) → is_empty? (reads o) ≡ true → today_body (down_body o) ≡ o
body_back none e = refl
body_back (some h) e = ap (λ (l : List Id). some (record { ins = h.ins; outs = h.outs; reads = l; bytes = h.bytes })) (sym (no_ids h.reads e))

pub record Said (r : Rec) : Type 0 where
  pub priority : fits32? r.terms.priority ≡ true
  pub caller : r.caller ≡ 0
  pub mark : not (eqb r.mark 3) ≡ true
  pub reads : is_empty? (reads r.body) ≡ true

said_of : (r : Rec) → rec_said? oldest r ≡ true → Said r
said_of r e =
    let a = and_true (priority_said? oldest r.terms.priority) _ e in
    let b = and_true (caller_said? oldest r.caller) _ a.1 in
    let c = and_true (mark_said? oldest r.mark) (reads_said? oldest r.body) b.1 in
    record { priority = a.0; caller = eqb-true r.caller 0 b.0; mark = c.0; reads = c.1 }

terms_small : (t : Terms) → (terms_k newest).ok t → t.priority < 256 ^ 8
unfolding terms_k map_c pair_c be_c
terms_small t h = h.1.1.1.0

rec_back_law : (r : Rec) → Fields r → Said r → today_rec (down_rec r) ≡ r
rec_back_law r f s = made (sym s.caller) (low_widen r.terms.priority (s.priority, terms_small r.terms f.terms)).0 (body_back r.body s.reads)
  where
    with : ℕ → ℕ → Option Held → Rec
    with c p o = record {
      id = r.id;
      caller = c;
      state = r.state;
      reason = r.reason;
      terms = record {
        created = r.terms.created;
        due = r.terms.due;
        due_height = r.terms.due_height;
        priority = p;
        label = r.terms.label;
        fee = r.terms.fee;
        size = r.terms.size;
        cost = r.terms.cost;
      };
      place = r.place;
      mark = r.mark;
      finish = r.finish;
      body = o;
    }

    made : {c c' p p' : ℕ} {o o' : Option Held} → c ≡ c' → p ≡ p' → o ≡ o' → with c p o ≡ with c' p' o'
    made e g h = rw (e, g, h)

recs_back : (l : List Rec) → All Fields l → all? (rec_said? oldest) l ≡ true → map today_rec (map down_rec l) ≡ l
recs_back [] f s = refl
recs_back (r ∷ l) f s = let t = and_true (rec_said? oldest r) _ s in rw (rec_back_law r f.0 (said_of r t.0), recs_back l f.1 t.1)

said_recs : (q : Queue) → says? oldest q ≡ true → (q.limits.shares ≡ first_share q.limits.P) × (all? (rec_said? oldest) q.recs ≡ true)
unfolding says?
said_recs q e = let t = and_true (shares_said? oldest q.limits) _ e in (same_is q.limits.shares (first_share q.limits.P) t.0, t.1)

pub back : (q : Queue) → Fit q → says? oldest q ≡ true → today (down q) ≡ q
back q f e =
    let s = said_recs q e in
    made (sym s.0) (recs_back q.recs f.recs s.1)
  where
    with : List ℕ → List Rec → Queue
    with l recs = record {
      persisted = q.persisted;
      limits = record { P = q.limits.P; B = q.limits.B; T = q.limits.T; K = q.limits.K; shares = l };
      revision = q.revision;
      cursor = q.cursor;
      tip = q.tip;
      counter = q.counter;
      recs = recs;
    }

    made : {l l' : List ℕ} {k k' : List Rec} → l ≡ l' → k ≡ k' → with l k ≡ with l' k'
    made g h = rw (g, h)

down_marks : (l : List Rec) → all? (rec_said? oldest) l ≡ true → all? plain_mark (map down_rec l) ≡ true
down_marks [] e = refl
down_marks (r ∷ l) e = let t = and_true (rec_said? oldest r) _ e in and_both (plain_mark (down_rec r)) _ (said_of r t.0).mark (down_marks l t.1)

pub down_sound : (q : Queue) → Fit q → says? oldest q ≡ true → sound? q ≡ true → base.sound? (down q) ≡ true
down_sound q f e s = sym (sound_same (down q) (down_marks q.recs (said_recs q e).1)) ∙ ap sound? (back q f e) ∙ s

down_terms_law : (t : Terms) → (terms_k newest).ok t → base.TermsFit (down_terms t)
unfolding terms_k label_c map_c pair_c be_c counted_c byte_c
down_terms_law t h = record {
  created = h.0;
  due = ok_opt (be_c 8) (λ n. n < 256 ^ 8) (λ n k. k) t.due h.1.0;
  due_height = ok_opt (be_c 4) (λ n. n < 256 ^ 4) (λ n k. k) t.due_height h.1.1.0;
  priority = omega arith;
  label = ok_opt (counted_c byte_c 1) (λ l. base.Small l × (length l < 256 ^ 1)) (λ l k. k) t.label h.1.1.1.1.0;
  fee = h.1.1.1.1.1.0;
  size = h.1.1.1.1.1.1.0;
  cost = h.1.1.1.1.1.1.1;
}

down_body_law : (o : Option Held) → body_c.ok o → base.Maybe base.HeldFits (down_body o)
unfolding body_k held_k opt_c map_c pair_c counted_c byte_c
down_body_law none h = h
down_body_law (some x) h = record { ins = (ok_ids x.ins h.0.0, h.0.1); outs = (ok_ids x.outs h.1.0.0, h.1.0.1); bytes = h.1.1.1 }

down_place : (o : Option (ℕ × Id)) → place_c.ok o → base.Maybe (λ p. (p.0 < 256 ^ 4) × base.IdFits p.1) o
unfolding place_c pair_c be_c
down_place o h = ok_opt (pair_c (be_c 4) id_c) (λ p. (p.0 < 256 ^ 4) × base.IdFits p.1) (λ p k. (k.0, ok_id p.1 k.1)) o h

down_rec_law : (r : Rec) → Fields r → base.RecFits (down_rec r)
down_rec_law r h = record {
  id = ok_id r.id h.id;
  state = omega (arith, h.state);
  reason = omega (arith, h.reason);
  terms = down_terms_law r.terms h.terms;
  place = down_place r.place h.place;
  mark = omega (arith, h.mark);
  finish = h.finish;
  body = down_body_law r.body h.body;
}

down_recs : (l : List Rec) → All Fields l → All base.RecFits (map down_rec l)
down_recs [] h = tt
down_recs (r ∷ l) h = (down_rec_law r h.0, down_recs l h.1)

pub record Heading (q : Queue) : Type 0 where
  pub P : q.limits.P < 256 ^ 4
  pub B : q.limits.B < 256 ^ 4
  pub T : q.limits.T < 256 ^ 4
  pub K : q.limits.K < 256 ^ 4
  pub count : length q.recs < 256 ^ 4

heading : (q : Queue) → queue_c.ok q → Heading q
unfolding head_k limits_k four_c map_c then_c pair_c be_c
heading q o =
    let h = (ok_store area_form (store_of q) (ok_queue q o).1).0 in
    let m = h.1.0.0 in
    record { P = m.0; B = m.1.0; T = m.1.1.0; K = m.1.1.1; count = h.1.1.1.1.1.1 }

pub down_fits : (q : Queue) → Fit q → base.Fits (down q)
down_fits q f =
    let h = heading q (fit_ok q f) in
    record {
      P = h.P;
      B = h.B;
      T = h.T;
      K = h.K;
      revision = f.revision;
      cursor = f.cursor;
      tip = ok_opt id_c base.IdFits ok_id q.tip f.tip;
      counter = f.counter;
      count = omega (arith, map_length down_rec q.recs, h.count);
      recs = down_recs q.recs f.recs;
    }

-- ---- what is promised
newest_is : (text : Bytes) (q : Queue) → read_newest text ≡ some q → read_image text ≡ some q
unfolding read_newest
newest_is text q e = cond_cases (eqb (kind_of text) newest) (read_image text) none (some q) e (λ t g. g) (λ t g. none_some g)
  where
    none_some : {X : Type 0} → ◌≡◌ {A = Option Queue} none (some q) → X
    none_some g = let z : ◌≡◌ {A = ℕ} 0 1 = cc in absurd (omega arith)

over_take : (bs d : Bytes) → take (length bs) (over bs d) ≡ bs
unfolding over
over_take bs d = take_at bs (drop (length bs) d) (length bs) refl

answered : Answer → ℕ
answered (Refused n) = 0
answered (Done k) = 1

pub opens_there : OpensThere
unfolding convert_of answered
opens_there text out old out' n e = go (read_newest text) refl e
  where
    refused : {m : ℕ} {x : Bytes × ℕ} {X : Type 0} → ◌≡◌ {A = Answer × (Bytes × ℕ)} (Refused m, x) (Done Nothing, (out', n)) → X
    refused g = let z : ◌≡◌ {A = ℕ} 0 1 = ap (λ (y : Answer × (Bytes × ℕ)). answered y.0) g in absurd (omega arith)

    answer : Option Queue → Answer × (Bytes × ℕ)
    answer o = maybe (Refused 16, (out, old))
        (λ q. cond (says? oldest q)
        (cond (ltb (length out) (length (image_under oldest q))) (Refused 4, (out, old)) (Done Nothing, (over (image_under oldest q) out, length (image_under oldest q))))
        (Refused 22, (out, old)))
        o

    found : (q : Queue) → read_newest text ≡ some q → says? oldest q ≡ true → ◌≡◌ {A = Answer × (Bytes × ℕ)} (Done Nothing, (over (image_under oldest q) out, length (image_under oldest q))) (Done Nothing, (out', n))
        → (b : base.Queue) × (read_image text ≡ some (today b)) × base.Opens (take n out') b
    found q p s g =
        let i = newest_is text q p in
        let r = reads_image text q i in
        let f = fit_of q r.0 r.1.0 in
        let k = back q f s in
        let h : over (image_under oldest q) out ≡ out' = ap (λ (x : Answer × (Bytes × ℕ)). x.1.0) g in
        let l : length (image_under oldest q) ≡ n = ap (λ (x : Answer × (Bytes × ℕ)). x.1.1) g in
        let z : take n out' ≡ image_under oldest q = rw (← h, ← l) (over_take (image_under oldest q) out) in (
          down q,
          i ∙ ap some (sym k),
          record {
            is = z ∙ ap (image_under oldest) (sym k) ∙ image_same (down q) (down_fits q f);
            sound = down_sound q f s r.0;
            fits = down_fits q f;
            level = r.1.1.0;
          },
        )

    go : (o : Option Queue) → read_newest text ≡ o → answer o ≡ (Done Nothing, (out', n)) → (b : base.Queue) × (read_image text ≡ some (today b)) × base.Opens (take n out') b
    go none p g = refused g
    go (some q) p g = cond_cases (says? oldest q) _ _ _ g
        (λ s g'. cond_cases (ltb (length out) (length (image_under oldest q))) _ _ _ g' (λ t h. refused h) (λ t h. found q p s h))
        (λ s g'. refused g')

pub comes_back : ComesBack
unfolding convert_of read_newest
comes_back text b w =
    let marks = plain_marks b w.sound in
    let s : sound? (today b) ≡ true = sound_same b marks ∙ w.sound in
    let f = today_fit b w.fits w.level s in
    let o = fit_ok (today b) f in
    let y = sayable b w.fits marks in
    let i = image_same b w.fits in
    let t : text ≡ image_under oldest (today b) = w.is ∙ sym i in
    let r : read_image (image_bytes (today b)) ≡ some (today b) = image_reads newest (today b) refl (newest_says (today b)) s o w.level in
    let k = shows_kind (image_bytes (today b)) (today b) (record { sound = s; range = o; level = w.level; kind = newest; known = refl; says = newest_says (today b); is = sym (image_plain newest (today b)) }) in (
      ap read_image t ∙ image_reads oldest (today b) refl y s o w.level,
      λ out old h. rw (k, r, y, ← t, le-ltb (length out) (length text) h),
    )

-- a text opens there as one queue
pub opens_once : (text : Bytes) (b c : base.Queue) → base.Opens text b → base.Opens text c → today b ≡ today c
opens_once text b c v w = ap (λ (o : Option Queue). maybe (today b) (λ (q : Queue). q) o) (sym (comes_back text b v).0 ∙ (comes_back text c w).0)

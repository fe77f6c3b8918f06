-- Laws of the readers of frames, as their proofs cite them. Assumes nothing.
use Rattle.std.specs.Prelude.{◌≡◌, refl, Bool, true, false, cond, not, eqb, List, [], ◌++◌, ℕ, ◌+◌, ◌^◌, ◌≤◌, ◌<◌, length, drop, take, Option, Some, None, MatchOption, IsSomeAnd, IfSome}
use Rattle.std.proofs.Common.{ap, sym, ◌∙◌, arith, length-append, length-drop, take_at, ne_eqb, eq-eqb, eqb-true}
use Rattle.std.proofs.lemmas.Bool.{not-false}
use Rattle.std.proofs.Math.Option as math
use Rattle.std.proofs.Math.Option.{none, some}
use Rattle.queue.specs.Codec.{Bytes, cases, got, Codec, byte_c, be_c, pair_c, opt_enc, opt_c, decs, counted_c, vec_bwd}
use Rattle.queue.specs.paper.Records.{Id, Held, Rec}
use Rattle.queue.specs.layout.FrameCodec.{tag_c, id_c, ids_c, label_c, widen, low32, Narrow, widen_low, low_widen, narrow_c, priority_c, terms_k, terms_of, terms_tuple, held_k, held_of, held_tuple, reads_c, body_k, place_c, mark_since, mark_c, rest_k, caller_c, rec_k, rec_of, rec_tuple, spans_id}
use Rattle.queue.specs.layout.Choice.{fix_c, pick_c, since_c, guard_dec, guard_c, via_c, via_dec}
use Rattle.queue.specs.theorems.OlderKinds.{mark_enc, mark_up}
use Rattle.queue.specs.bytes.ReaderAs.{Fails, Found, Stands, flag_c, option_of, Reads, IsCounted, Counted, whole, list_at}
use Rattle.queue.specs.bytes.ReaderLaws.{false_true, pair, mapped, weaken, opt_absent, opt_present, Spans, spans_be, spans_byte, spanned, counted, not_counted, none_left}
use Rattle.queue.specs.layout.FrameAs.{times, heights, mined_at, terms_from, facts_of, ListAs, TermsAs, BodyAs, RestAs, SeenUnder}
use Rattle.queue.specs.paper.Lists.{is_some}
use Rattle.queue.specs.paper.Kinds.{mark_said?, has_mark3, has_callers, has_reads, has_wide}
use Rattle.queue.specs.paper.Sound.{label_len, inputs, outputs, reads, content}
use Rattle.queue.specs.declared.bytes.view.Read.{Read}
use Rattle.queue.specs.declared.bytes.view.Items.{Items}
use Rattle.queue.specs.declared.layout.frame.Time.{Time}
use Rattle.queue.specs.declared.layout.frame.Height.{Height}
use Rattle.queue.specs.declared.layout.frame.Terms as code
use Rattle.queue.specs.declared.layout.frame.Body.{Body}
use Rattle.queue.specs.declared.layout.frame.Rest.{Rest}
use Rattle.queue.specs.declared.layout.frame.Facts.{Facts}
use Rattle.queue.specs.declared.layout.frame.Seen.{Seen}
use Rattle.queue.proofs.bytes.ReadLaws.{bytes_enc}

-- ---- where what was read ends
module _ {A : Type 0} {𝓐 : Codec A} {s : Bytes} {at next : ℕ} {W : A → Type 0} (x : Found 𝓐 s at next W) where
  pub read_ok : 𝓐.ok x.value
  read_ok = (𝓐.bwd (drop at s) x.value (drop next s) x.is).1

  -- the bytes read are those of the value
  pub read_enc : drop at s ≡ 𝓐.enc x.value ++ drop next s
  read_enc = (𝓐.bwd (drop at s) x.value (drop next s) x.is).0

  pub read_next : next ≡ at + length (𝓐.enc x.value)
  read_next = let l = ap length read_enc in let u = x.up in let v = x.within in omega (arith, length-append (𝓐.enc x.value) (drop next s), length-drop at s, length-drop next s)

  pub read_sized : {n : ℕ} → Spans 𝓐 n → next ≡ at + n
  read_sized p = let e = p.size x.value read_ok in omega (arith, read_next)

-- ---- numbers
number_ok : (n : ℕ) {v : ℕ} {s : Bytes} {at next : ℕ} → Found (be_c n) s at next (λ a. a ≡ v) → v < 256 ^ n
unfolding be_c
number_ok n x = let P : ℕ → Type 0 = λ a. a < 256 ^ n in rw x.fact at (read_ok x)

pub number_8 : {v : ℕ} {s : Bytes} {at next : ℕ} → Found (be_c 8) s at next (λ a. a ≡ v) → v < 18446744073709551616
number_8 x = number_ok 8 x

pub number_4 : {v : ℕ} {s : Bytes} {at next : ℕ} → Found (be_c 4) s at next (λ a. a ≡ v) → v < 4294967296
number_4 x = number_ok 4 x

pub number_1 : {v : ℕ} {s : Bytes} {at next : ℕ} → Found (be_c 1) s at next (λ a. a ≡ v) → v < 256
number_1 x = number_ok 1 x

-- a number that may be absent, under its type
pub timed : (o : math.Option ℕ) {v : Option ℕ} {r : Option Time} → option_of o ≡ v → MatchOption v (r ≡ None) (λ n. IsSomeAnd r (λ t. t.0 ≡ n)) → times o ≡ r
timed none e h = let k = rw (← e) at h in sym k
timed (some n) {v} {r} e h = let k = rw (← e) at h in go r k
  where
    go : (r : Option Time) → IsSomeAnd r (λ t. t.0 ≡ n) → Some (record { 0 = n }) ≡ r
    go None k = absurd k
    go (Some t) k = rw k refl

pub heighted : (o : math.Option ℕ) {v : Option ℕ} {r : Option Height} → option_of o ≡ v → MatchOption v (r ≡ None) (λ n. IsSomeAnd r (λ t. t.0 ≡ n)) → heights o ≡ r
heighted none e h = let k = rw (← e) at h in sym k
heighted (some n) {v} {r} e h = let k = rw (← e) at h in go r k
  where
    go : (r : Option Height) → IsSomeAnd r (λ t. t.0 ≡ n) → Some (record { 0 = n }) ≡ r
    go None k = absurd k
    go (Some t) k = rw k refl

time_ok : (o : math.Option ℕ) {r : Option Time} → (opt_c (be_c 8)).ok o → times o ≡ r → IfSome r (λ t. t.0 < 18446744073709551616)
unfolding opt_c be_c
time_ok none h e = rw (← e) tt
time_ok (some n) h e = rw (← e) h

height_ok : (o : math.Option ℕ) {r : Option Height} → (opt_c (be_c 4)).ok o → heights o ≡ r → IfSome r (λ t. t.0 < 4294967296)
unfolding opt_c be_c
height_ok none h e = rw (← e) tt
height_ok (some n) h e = rw (← e) h

-- ---- counted items
whole_of : {A : Type 0} (𝓐 : Codec A) (s : Bytes) (n at : ℕ) (l : List A) (t : Bytes) → decs 𝓐 n (drop at s) ≡ got l t → (whole 𝓐 n s at ≡ true) × (list_at 𝓐 n s at ≡ l)
unfolding whole list_at
whole_of 𝓐 s n at l t e = rw e (refl, refl)

-- items that were counted: how many they are, where they are read from, and that their number fits its w bytes
abbrev pub Listed : {A : Type 0} → Codec A → Bytes → ℕ → ℕ → ℕ → ℕ → List A → Type 0
Listed 𝓐 s w len start next l = (length l ≡ len) × (decs 𝓐 len (drop start s) ≡ got l (drop next s)) × (start ≤ length s) × (len < 256 ^ w)

pub listed : {A : Type 0} {𝓐 : Codec A} (s : Bytes) (at w : ℕ) {size : ℕ} → Spans 𝓐 size → (r : Option (Read Items)) → Counted s at w size r → Reads (counted_c 𝓐 w) s at r (λ x. Listed 𝓐 s w x.value.len x.value.start x.next)
listed s at w x None h = not_counted x h
listed {𝓐 = 𝓐} s at w x (Some y) h = weaken (Listed 𝓐 s w y.value.len y.value.start y.next) (counted x h) (λ e. (e.0, e.1, e.2, number_ok w h.count))

pub ids_listed : {s : Bytes} {at next : ℕ} {x : Items} → IsCounted s at 2 32 x.len x.start next → Found ids_c s at next (ListAs s x)
ids_listed {s} {at} {next} {x} y =
    let c = counted spans_id y in
    record {
      value = c.value;
      is = c.is;
      up = c.up;
      within = c.within;
      fact = let p = whole_of id_c s x.len x.start c.value (drop next s) c.fact.1 in
          record { len = c.fact.0; all = p.0; list = p.1; inside = c.fact.2; small = number_ok 2 y.count };
    }

pub no_list : (s : Bytes) (at : ℕ) → at ≤ length s → ListAs s (record { len = 0; start = at }) []
no_list s at h = let p = none_left id_c s 0 at refl in record { len = refl; all = p.1; list = p.0; inside = h; small = omega arith }

-- n bytes that stand at `at`
bytes_of : (s : Bytes) (n at : ℕ) (l t : Bytes) → at ≤ length s → decs byte_c n (drop at s) ≡ got l t → (take n (drop at s) ≡ l) × (at + n ≤ length s)
bytes_of s n at l t h e =
    let u = vec_bwd byte_c n (drop at s) l t e in
    let f : drop at s ≡ l ++ t = u.0 ∙ ap (λ (z : Bytes). z ++ t) (bytes_enc l) in
    let k = ap length f in
    let m = u.1.1 in
    (ap (take n) f ∙ take_at l t n m, omega (arith, length-append l t, length-drop at s))

-- ---- a label
pub label_is : {s : Bytes} {at m next len start : ℕ} {flag : Bool} → Found flag_c s at m (λ b. flag ≡ b) → flag ≡ true → IsCounted s m 1 1 len start next → Found label_c s at next (λ o. label_len o ≡ len)
unfolding label_c
label_is {len = len} x z y = opt_present (counted_c byte_c 1) x z (counted spans_byte y) (λ o. label_len o ≡ len) (λ w. w.0)

-- ---- a priority
priority_ok : (wide : Bool) (n : ℕ) → (pick_c wide (be_c 8) narrow_c).ok n → n < 18446744073709551616
unfolding be_c narrow_c via_c
priority_ok true n h = h
priority_ok false n h = h.1

via_read : {A B : Type 0} (f : A → B) (g : B → A) (P : B → Type 0) (𝓐 : Codec A) (to : (a : A) → 𝓐.ok a → (g (f a) ≡ a) × P (f a)) (from : (b : B) → P b → (f (g b) ≡ b) × 𝓐.ok (g b))
    {s : Bytes} {at next : ℕ} {V : A → Type 0} (W : B → Type 0) → (x : Found 𝓐 s at next V) → (V x.value → W (f x.value)) → Found (via_c f g P 𝓐 to from) s at next W
unfolding via_c via_dec
via_read f g P 𝓐 to from W x k = record { value = f x.value; is = rw x.is refl; up = x.up; within = x.within; fact = k x.fact }

via_fails : {A B : Type 0} (f : A → B) (g : B → A) (P : B → Type 0) (𝓐 : Codec A) (to : (a : A) → 𝓐.ok a → (g (f a) ≡ a) × P (f a)) (from : (b : B) → P b → (f (g b) ≡ b) × 𝓐.ok (g b))
    {s : Bytes} {at : ℕ} → Fails 𝓐 s at → Fails (via_c f g P 𝓐 to from) s at
unfolding via_c via_dec
via_fails f g P 𝓐 to from x = record { is = λ h. rw (x.is h) refl }

module _ (k : ℕ) {s : Bytes} {at : ℕ} (f : has_wide k ≡ false) where
  pub low_is : {next v w : ℕ} → Found (be_c 4) s at next (λ a. a ≡ v) → w ≡ widen v → Found (priority_c k) s at next (λ a. a ≡ w)
  unfolding narrow_c
  low_is {w = w} x e = rw f (via_read widen low32 Narrow (be_c 4) widen_low low_widen (λ a. a ≡ w) x (λ q. ap widen q ∙ sym e))

  pub low_fails : Fails (be_c 4) s at → Fails (priority_c k) s at
  unfolding narrow_c
  low_fails x = rw f (via_fails widen low32 Narrow (be_c 4) widen_low low_widen x)

-- ---- terms
label_ok : (o : math.Option Bytes) → label_c.ok o → label_len o < 256
unfolding label_c opt_c counted_c
label_ok none h = omega arith
label_ok (some l) h = h.1

pub terms_is : {s : Bytes} {at na nb nc nd ne nf ng nh : ℕ} (k : ℕ) (x : code.Terms)
    → Found (be_c 8) s at na (λ a. a ≡ x.created.0) → Found (opt_c (be_c 8)) s na nb (λ o. times o ≡ x.due) → Found (opt_c (be_c 4)) s nb nc (λ o. heights o ≡ x.due_height)
    → Found (priority_c k) s nc nd (λ a. a ≡ x.priority) → Found label_c s nd ne (λ o. label_len o ≡ x.label) → Stands s ne 8 nf → Found (be_c 4) s nf ng (λ a. a ≡ x.size) → Stands s ng 8 nh
    → Found (terms_k k) s at nh (TermsAs x)
unfolding terms_k pair mapped spanned
terms_is k x a b c d e f g h = mapped terms_of terms_tuple (λ t. refl) (λ t. refl) (TermsAs x)
    (pair a (pair b (pair c (pair d (pair e (pair (spanned (spans_be 8) f) (pair g (spanned (spans_be 8) h))))))))
    (λ _. record {
      created = a.fact;
      due = b.fact;
      due_height = c.fact;
      priority = d.fact;
      label = e.fact;
      size = g.fact;
      created_small = number_8 a;
      due_small = time_ok b.value (read_ok b) b.fact;
      due_height_small = height_ok c.value (read_ok c) c.fact;
      priority_small = rw d.fact at (priority_ok (has_wide k) d.value (read_ok d));
      label_small = rw e.fact at (label_ok e.value (read_ok e));
      size_small = number_4 g;
    })

-- ---- a place
pub no_place : {s : Bytes} {at m : ℕ} {flag : Bool} → Found flag_c s at m (λ b. flag ≡ b) → flag ≡ false → Found place_c s at m (λ o. mined_at o ≡ None)
unfolding place_c
no_place x z = opt_absent (pair_c (be_c 4) id_c) x z (λ o. mined_at o ≡ None) refl

pub place_is : {s : Bytes} {at m k next n : ℕ} {flag : Bool} → Found flag_c s at m (λ b. flag ≡ b) → flag ≡ true → Found (be_c 4) s m k (λ a. a ≡ n) → Stands s k 32 next → Found place_c s at next (λ o. mined_at o ≡ Some (record { 0 = n }))
unfolding place_c
place_is {n = n} x z y p = opt_present (pair_c (be_c 4) id_c) x z (pair y (spanned spans_id p)) (λ o. mined_at o ≡ Some (record { 0 = n })) (λ w. let e = w.0 in rw e refl)

mined_ok : (o : math.Option (ℕ × Id)) {r : Option Height} → place_c.ok o → mined_at o ≡ r → IfSome r (λ t. t.0 < 4294967296)
unfolding place_c opt_c pair_c be_c
mined_ok none h e = rw (← e) tt
mined_ok (some p) h e = rw (← e) h.0

-- ---- a body
pub reads_none : (k : ℕ) {s : Bytes} {at : ℕ} → has_reads k ≡ false → at ≤ length s → Found (reads_c k) s at at (ListAs s (record { len = 0; start = at }))
unfolding fix_c
reads_none k {s} {at} f h = rw f (record { value = []; is = refl; up = omega arith; within = h; fact = no_list s at h })

pub reads_counted : (k : ℕ) (s : Bytes) (at : ℕ) (r : Option (Read Items)) → has_reads k ≡ true → Counted s at 2 32 r → Reads (reads_c k) s at r (λ x l. ListAs s x.value l)
reads_counted k s at None t h = rw t (not_counted spans_id h)
reads_counted k s at (Some x) t h = rw t (ids_listed h)

pub not_absent : (P : Read Items → Type 0) (k : ℕ) (r : Option (Read Items)) → has_reads k ≡ true → IfSome r (λ x. has_reads k ≡ false → P x)
not_absent P k None t = tt
not_absent P k (Some x) t = λ f. false_true (sym f ∙ t)

pub no_body : (k : ℕ) {s : Bytes} {at m : ℕ} {flag : Bool} (r : Body) → Found flag_c s at m (λ b. flag ≡ b) → flag ≡ false
    → (let i : Items = record { len = 0; start = m } in r ≡ record { holder = false; inputs = i; outputs = i; reads = i; signed = i }) → Found (body_k k) s at m (BodyAs k s r m)
unfolding body_k
no_body k {s} {at} {m} r x z e = opt_absent (held_k k) x z (BodyAs k s r m) (rw e (
    let l = no_list s m x.within in
    let h = x.within in
    record { holder = refl; inputs = l; outputs = l; reads = l; signed_len = refl; signed = refl; signed_in = omega arith; signed_small = omega arith; tail = λ _. omega arith }))

pub body_is : (k : ℕ) {s : Bytes} {at m ni no nd nb : ℕ} {flag : Bool} (r : Body) → Found flag_c s at m (λ b. flag ≡ b) → flag ≡ true → r.holder ≡ true
    → IsCounted s m 2 32 r.inputs.len r.inputs.start ni → IsCounted s ni 2 32 r.outputs.len r.outputs.start no → Found (reads_c k) s no nd (ListAs s r.reads) → (has_reads k ≡ false → (r.reads.start ≡ no) × (nd ≡ no))
    → IsCounted s nd 4 1 r.signed.len r.signed.start nb → Found (body_k k) s at nb (BodyAs k s r nb)
unfolding body_k held_k pair mapped counted
body_is k {s} {at} {m} {ni} {no} {nd} {nb} r x z e i o d g b =
    let c = counted spans_byte b in
    let li = ids_listed i in
    let lo = ids_listed o in
    let y = bytes_of s r.signed.len r.signed.start c.value (drop nb s) c.fact.2 c.fact.1 in
    opt_present (held_k k) x z (mapped held_of held_tuple (λ t. refl) (λ t. refl) (λ _. Unit {0}) (pair li (pair lo (pair d c))) (λ _. tt)) (BodyAs k s r nb)
    (λ _. record {
      holder = sym e;
      inputs = li.fact;
      outputs = lo.fact;
      reads = d.fact;
      signed_len = c.fact.0;
      signed = y.0;
      signed_in = y.1;
      signed_small = number_4 b.count;
      tail = λ u. let p = g u in let n = read_next c in omega arith;
    })

-- a flag takes a byte
pub opt_long : {A : Type 0} (𝓐 : Codec A) (o : math.Option A) → 1 ≤ length ((opt_c 𝓐).enc o)
unfolding opt_c opt_enc
opt_long 𝓐 none = omega arith
opt_long 𝓐 (some a) = omega arith

body_long : (k : ℕ) (o : math.Option Held) → 1 ≤ length ((body_k k).enc o)
unfolding body_k
body_long k o = opt_long (held_k k) o

-- ---- what stands behind the terms
guard_fails : {A : Type 0} (t : A → Bool) (𝓐 : Codec A) {s : Bytes} {at : ℕ} → Fails 𝓐 s at → Fails (guard_c t 𝓐) s at
unfolding guard_c guard_dec
guard_fails t 𝓐 x = record { is = λ h. rw (x.is h) refl }

module _ (k : ℕ) {s : Bytes} {at next v : ℕ} (x : Found (be_c 1) s at next (λ a. a ≡ v)) where
  pub any_mark : has_mark3 k ≡ true → Found (mark_c k) s at next (λ a. a ≡ v)
  any_mark t = rw t x

  pub mark_not_3 : has_mark3 k ≡ false → (v ≡ 3 → ⊥) → Found (mark_c k) s at next (λ a. a ≡ v)
  unfolding guard_c guard_dec
  mark_not_3 f n = rw f (record { value = v; is = rw (x.is, x.fact, ne_eqb v 3 n) refl; up = x.up; within = x.within; fact = refl })

  pub mark_3 : has_mark3 k ≡ false → v ≡ 3 → Fails (mark_c k) s at
  unfolding guard_c guard_dec
  mark_3 f e = rw f (record { is = λ _. rw (x.is, x.fact, eq-eqb v 3 e) refl })

pub no_mark : (k : ℕ) {s : Bytes} {at : ℕ} → Fails (be_c 1) s at → Fails (mark_c k) s at
no_mark k x = go (has_mark3 k) x
  where
    go : {s : Bytes} {at : ℕ} (since : Bool) → Fails (be_c 1) s at → Fails (mark_since since) s at
    go true x = x
    go false x = guard_fails _ (be_c 1) x

-- a byte, tested where the kind has no mark 3
module _ (k : ℕ) {s : Bytes} {at next v : ℕ} (x : Found (be_c 1) s at next (λ a. a ≡ v)) where
  pub mark_said : mark_said? k v ≡ true → Found (mark_c k) s at next (λ a. a ≡ v)
  mark_said e =
      cases (has_mark3 k)
      (λ t. any_mark k x t)
      (λ f. mark_not_3 k x f (λ z. let n : false ≡ true = rw (f, eq-eqb v 3 z) at e in false_true n))

  pub mark_unsaid : mark_said? k v ≡ false → Fails (mark_c k) s at
  mark_unsaid e =
      cases (has_mark3 k)
      (λ t. let n : true ≡ false = rw t at e in false_true (sym n))
      (λ f. let n : not (eqb v 3) ≡ false = rw f at e in mark_3 k x f (eqb-true v 3 (not-false _ n)))

pub mark_read : (k : ℕ) {s : Bytes} {at : ℕ}
    → ((next v : ℕ) → Found (be_c 1) s at next (λ a. a ≡ v) → (mark_said? k v ≡ true → Found (mark_c k) s at next (λ a. a ≡ v)) × (mark_said? k v ≡ false → Fails (mark_c k) s at) × (v < 256)) × (Fails (be_c 1) s at → Fails (mark_c k) s at)
mark_read k = (λ next v x. (mark_said k x, mark_unsaid k x, number_1 x), λ x. no_mark k x)

mark_size : (k m : ℕ) → (mark_c k).ok m → length ((mark_c k).enc m) ≡ 1
mark_size k m h = rw (mark_enc k m) ((spans_be 1).size m (mark_up k m h))

mark_ok : (k m : ℕ) → (mark_c k).ok m → m < 256
unfolding be_c
mark_ok k m h = mark_up k m h

pub rest_is : (k : ℕ) {s : Bytes} {at na nb nc nd : ℕ} (r : Rest)
    → Found place_c s at na (λ o. mined_at o ≡ r.mined) → Found (mark_c k) s na nb (λ a. a ≡ r.mark) → Found (be_c 8) s nb nc (λ a. a ≡ r.finish.0) → Found (body_k k) s nc nd (BodyAs k s r.held nd)
    → r.marks ≡ na → r.body ≡ nc → Found (rest_k k) s at nd (RestAs k s at r nd)
unfolding pair
rest_is k {s} {at} {na} {nb} {nc} {nd} r a b c d e1 e2 = weaken (RestAs k s at r nd) (pair a (pair b (pair c d))) (λ _.
    let pa = read_next a in
    let pb = read_next b in
    let sb = mark_size k b.value (read_ok b) in
    let pc = read_sized c (spans_be 8) in
    let pd = read_next d in
    let ld = body_long k d.value in
    record {
      mined = a.fact;
      mark = b.fact;
      finish = c.fact;
      held = d.fact;
      place = rw e1 (read_enc a);
      marks = rw (e1, e2) (read_enc b ∙ ap (λ (z : Bytes). (mark_c k).enc b.value ++ z) (read_enc c) ∙ rw (mark_enc k b.value) refl);
      body = rw e2 (read_enc d);
      up = omega (arith, a.up);
      body_at = omega arith;
      up_body = omega arith;
      end = d.within;
      mined_small = mined_ok a.value (read_ok a) a.fact;
      mark_small = rw b.fact at (mark_ok k b.value (read_ok b));
      finish_small = number_8 c;
    })

-- ---- a record
-- the facts read, part by part
abbrev pub facts_from : ℕ → ℕ → ℕ → code.Terms → Rest → Facts
facts_from w a b t r = record {
  caller = w;
  state = a;
  reason = b;
  created = t.created;
  due = t.due;
  due_height = t.due_height;
  priority = t.priority;
  label = t.label;
  size = t.size;
  mined = r.mined;
  mark = r.mark;
  finish = r.finish;
  holder = r.held.holder;
  ins = r.held.inputs.len;
  outs = r.held.outputs.len;
  reads = r.held.reads.len;
  bytes = r.held.signed.len;
}

unfoldable facts : ℕ → ℕ → ℕ → ℕ → Option Time → Option Height → ℕ → ℕ → ℕ → Option Height → ℕ → ℕ → Bool → ℕ → ℕ → ℕ → ℕ → Facts
facts w a b c d e f g h i j k l m n o p = record {
  caller = w;
  state = a;
  reason = b;
  created = record { 0 = c };
  due = d;
  due_height = e;
  priority = f;
  label = g;
  size = h;
  mined = i;
  mark = j;
  finish = record { 0 = k };
  holder = l;
  ins = m;
  outs = n;
  reads = o;
  bytes = p;
}

facts_from_law : (w a b : ℕ) (t : code.Terms) (r : Rest) → facts_from w a b t r ≡ facts w a b t.created.0 t.due t.due_height t.priority t.label t.size r.mined r.mark r.finish.0 r.held.holder r.held.inputs.len r.held.outputs.len r.held.reads.len r.held.signed.len
unfolding facts
facts_from_law w a b t r = refl

facts_of_law : (x : Rec) → facts_of x ≡ facts x.caller x.state x.reason x.terms.created (times x.terms.due) (heights x.terms.due_height) x.terms.priority (label_len x.terms.label) x.terms.size (mined_at x.place) x.mark x.finish (is_some x.body) (length (inputs x.body)) (length (outputs x.body)) (length (reads x.body)) (length (content x.body))
unfolding facts facts_of
facts_of_law x = refl

facts_is : (i : ℕ) (v : Bytes) (at next w a b : ℕ) (t : code.Terms) (r : Rest) (x : Rec) → x.caller ≡ w → x.state ≡ a → x.reason ≡ b → TermsAs t x.terms → RestAs i v at r next (x.place, (x.mark, (x.finish, x.body))) → facts_from w a b t r ≡ facts_of x
facts_is i v at next w a b t r x g e f p q =
    let h = q.held in
    let li = h.inputs.len in
    let lo = h.outputs.len in
    let lr = h.reads.len in
    facts_from_law w a b t r ∙ cc (facts_of_law x)

-- a caller takes a byte where the kind has it
caller_size : (has : Bool) (c : ℕ) → (since_c has (be_c 1) 0).ok c → length ((since_c has (be_c 1) 0).enc c) ≡ cond has 1 0
unfolding fix_c
caller_size true c h = (spans_be 1).size c h
caller_size false c h = refl

caller_ok : (has : Bool) (c : ℕ) → (since_c has (be_c 1) 0).ok c → c < 256
unfolding be_c fix_c
caller_ok true c h = h
caller_ok false c h = omega arith

pub no_caller : (k : ℕ) {s : Bytes} {at : ℕ} → has_callers k ≡ false → at ≤ length s → Found (caller_c k) s at at (λ a. a ≡ 0)
unfolding fix_c
no_caller k f h = rw f (record { value = 0; is = refl; up = omega arith; within = h; fact = refl })

pub spans_tag : (n : ℕ) (a : Unit {0}) → (tag_c n).ok a → length ((tag_c n).enc a) ≡ 1
unfolding tag_c
spans_tag n a h = refl

-- where the terms begin
lead_at : (has : Bool) → ◌≡◌ {A = ℕ} (cond has 36 35) (35 + cond has 1 0)
lead_at true = refl
lead_at false = refl

pub record_is : {s : Bytes} {na nb nw nc nd ne nf vw vc vd : ℕ} {va : Id} (k : ℕ) (t : code.Terms) (x : Rest) (r : Seen)
    → Found (tag_c 2) s 0 na (λ _. Unit {0}) → Found id_c s na nb (λ a. a ≡ va) → Found (caller_c k) s nb nw (λ a. a ≡ vw) → Found (be_c 1) s nw nc (λ a. a ≡ vc) → Found (be_c 1) s nc nd (λ a. a ≡ vd)
    → Found (terms_k k) s nd ne (TermsAs t) → Found (rest_k k) s ne nf (RestAs k s ne x nf)
    → r ≡ record { id = va; facts = facts_from vw vc vd t x; after = ne; mark = x.marks; body = x.body; at = x.held.inputs.start; outs = x.held.outputs.start; reads = x.held.reads.start; content = x.held.signed.start; size = nf }
    → Found (rec_k k) s 0 r.size (SeenUnder k s r)
unfolding rec_k pair mapped
record_is {s} {na} {nb} {nw} {nc} {nd} {ne} {nf} {vw} {vc} {vd} {va} k t x r a b w c d e f z = rw z (mapped rec_of rec_tuple (λ t. refl) (λ t. refl) _
    (pair a (pair b (pair w (pair c (pair d (pair e f))))))
    (λ _.
    let pa = read_next a in
    let sa = spans_tag 2 a.value (read_ok a) in
    let pb = read_sized b spans_id in
    let pw = read_next w in
    let sw = caller_size (has_callers k) w.value (read_ok w) in
    let pc = read_sized c (spans_be 1) in
    let pd = read_sized d (spans_be 1) in
    let at-terms : terms_from k ≡ nd = lead_at (has_callers k) ∙ omega arith in
    let q = f.fact in
    let h = q.held in
    record {
      id = sym b.fact;
      facts = facts_is k s ne nf vw vc vd t x _ w.fact c.fact d.fact e.fact q;
      small = record {
        caller = rw w.fact at (caller_ok (has_callers k) w.value (read_ok w));
        state = number_1 c;
        reason = number_1 d;
        created = e.fact.created_small;
        due = e.fact.due_small;
        due_height = e.fact.due_height_small;
        priority = e.fact.priority_small;
        label = e.fact.label_small;
        size = e.fact.size_small;
        mined = q.mined_small;
        mark = q.mark_small;
        finish = q.finish_small;
        ins = h.inputs.small;
        outs = h.outputs.small;
        reads = h.reads.small;
        bytes = h.signed_small;
      };
      terms = ap (λ (j : ℕ). drop j s) at-terms ∙ read_enc e;
      place = q.place;
      marks = q.marks;
      body = q.body;
      up = omega (arith, e.up, at-terms);
      up_place = q.up;
      body_at = q.body_at;
      up_body = q.up_body;
      end = q.end;
      ins_all = h.inputs.all;
      ins_list = h.inputs.list;
      ins_in = h.inputs.inside;
      outs_all = h.outputs.all;
      outs_list = h.outputs.list;
      outs_in = h.outputs.inside;
      reads_all = h.reads.all;
      reads_list = h.reads.list;
      reads_in = h.reads.inside;
      signed = h.signed;
      signed_in = h.signed_in;
      tail = h.tail;
    }))

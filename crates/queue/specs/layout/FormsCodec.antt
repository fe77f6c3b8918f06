-- A frame as bytes in an area or as a line of text in an image; a queue's frames in either form
use Rattle.std.specs.Prelude.{◌≡◌, refl, Bool, true, false, cond, ◌&&◌, List, [], ◌∷◌, ◌++◌, ℕ, ◌+◌, ◌-◌, ◌*◌, ◌^◌, ◌≤◌, ◌<◌, ltb, eqb, length, take, drop, get_or}
use Rattle.std.proofs.Common.{sym, ap, ◌∙◌, append_assoc, arith, add-one, length-append, length-drop, take-append-drop, drop-cons, drop-drop, get_or-drop, drop_at, take_at, lt-ltb, le-ltb, ltb-true, ltb-false, eqb-true, eq-eqb}
use Rattle.std.proofs.Math.Option.{Option}
use Rattle.std.proofs.lemmas.List.{get_or_at}
use Rattle.queue.specs.Codec.{Got, fail, got, ◌>>=◌, bind_got, if_got, cases, All, all_append, Codec, be, be_c, pair_c, map_c, encs, decs, vec_fwd, vec_bwd, vec_small, vec_most, vec_fits}
use Rattle.queue.specs.Lists.{and_true}
use Rattle.queue.specs.layout.FrameCodec.{Head, head_k, rec_k, head_c, rec_c}
use Rattle.queue.specs.bytes.ReaderAs.{Fails, Found, is_got, rest_of, whole, list_at, behind, reads?}
use Rattle.queue.specs.bytes.ReaderLaws.{false_true, pair, first, later, mapped, map_fails, weaken, Turn, turn, whole_bad}
use Rattle.queue.specs.bytes.ViewAs.{pairs, view, view_raw}
use Rattle.queue.specs.Hex.{text_of, digits?, all_digits, text_length, text_pairs, text_small, text_digits, digits_is, digits_text}
use Rattle.queue.specs.paper.Records.{Bytes, Id, Limits, Rec, Queue}
use Rattle.queue.specs.paper.Kinds.{newest}
use Rattle.queue.specs.declared.layout.frame.Form.{Form}

-- the frame of n bytes at base in s: where the next one starts
unfoldable pub after_in_value : Bool → Bytes → ℕ → ℕ → ℕ
after_in_value false s base n = base + n
after_in_value true s base n = cond (ltb (base + 2 * n) (length s)) (base + 2 * n + 1) (base + 2 * n)

-- in a text it is digits, and its line ends
unfoldable pub ends_line_value : Bool → Bytes → ℕ → ℕ → Bool
ends_line_value false s base n = true
ends_line_value true s base n = ltb (base + 2 * n) (length s) && (eqb (get_or s (base + 2 * n) 0) 10 && digits? (2 * n) s base)

-- the text of n bytes and the end of the line stand at base
pub record Line (s : Bytes) (base n : ℕ) : Type 0 where
  pub room : base + 2 * n < length s
  pub stop : get_or s (base + 2 * n) 0 ≡ 10
  pub digits : all_digits (2 * n) (drop base s) ≡ true

pub ends_line : (s : Bytes) (base n : ℕ) → ends_line_value true s base n ≡ true → Line s base n
unfolding ends_line_value
ends_line s base n e =
    let a = and_true (ltb (base + 2 * n) (length s)) _ e in
    let b = and_true (eqb (get_or s (base + 2 * n) 0) 10) _ a.1 in
    record { room = ltb-true _ _ a.0; stop = eqb-true _ _ b.0; digits = sym (digits_is (2 * n) s base) ∙ b.1 }

line_ends : (s : Bytes) (base n : ℕ) → Line s base n → ends_line_value true s base n ≡ true
unfolding ends_line_value
line_ends s base n x = rw (lt-ltb _ _ x.room, eq-eqb _ _ x.stop, digits_is (2 * n) s base, x.digits)

ends_shift : (s : Bytes) (base n : ℕ) → ends_line_value true (drop base s) 0 n ≡ ends_line_value true s base n
unfolding ends_line_value
ends_shift s base n =
    let l = length-drop base s in
    let p : ltb (0 + 2 * n) (length (drop base s)) ≡ ltb (base + 2 * n) (length s) = cases (ltb (base + 2 * n) (length s))
    (λ t. let k = ltb-true (base + 2 * n) (length s) t in lt-ltb (0 + 2 * n) (length (drop base s)) (omega arith) ∙ sym t)
    (λ t. let k = ltb-false (base + 2 * n) (length s) t in le-ltb (0 + 2 * n) (length (drop base s)) (omega arith) ∙ sym t) in
    let z : 0 + 2 * n ≡ 2 * n = omega arith in
    let q : get_or (drop base s) (0 + 2 * n) 0 ≡ get_or s (base + 2 * n) 0 = rw z (get_or-drop base s (2 * n) 0) in
    rw (p, q, digits_is (2 * n) (drop base s) 0, digits_is (2 * n) s base)

-- the line of some bytes is one, and it reads back
line_here : (b r : Bytes) → All (λ x. x < 256) b → Line (text_of b ++ (10 ∷ r)) 0 (length b)
line_here b r h =
    let e = text_length b in
    record {
      room = rw length-append (omega arith);
      stop = get_or_at (text_of b) 10 r 0 (0 + 2 * length b) (omega arith);
      digits = text_digits b (10 ∷ r) h;
    }

line_rest : (b r : Bytes) → drop (2 * length b + 1) (text_of b ++ (10 ∷ r)) ≡ r
line_rest b r =
    let e = text_length b in
    let l : length (text_of b ++ (10 ∷ [])) ≡ 2 * length b + 1 = rw length-append (omega arith) in
    rw (append_assoc (text_of b) (10 ∷ []) r) at (drop_at (text_of b ++ (10 ∷ [])) r (2 * length b + 1) l)

line_split : (t : Bytes) (n : ℕ) → Line t 0 n → t ≡ text_of (take n (pairs t)) ++ (10 ∷ drop (2 * n + 1) t)
line_split t n x =
    let z : 0 + 2 * n ≡ 2 * n = omega arith in
    let o = x.room in
    let c : drop (2 * n) t ≡ 10 ∷ drop (2 * n + 1) t = drop-cons t (2 * n) 0 (omega arith) ∙ rw (← x.stop, z, add-one) in
    sym (take-append-drop (2 * n) t) ∙ rw (digits_text n t x.digits, c)

-- ---- a value alone in a line of text
module _ {A : Type 0} (𝓐 : Codec A) where
  unfoldable pub line_enc : A → Bytes
  line_enc a = text_of (𝓐.enc a) ++ (10 ∷ [])

  unfoldable pub line_dec : Bytes → Got A
  line_dec t = 𝓐.dec (pairs t) >>= λ a r. cond (ends_line_value true t 0 (length (𝓐.enc a))) (got a (drop (2 * length (𝓐.enc a) + 1) t)) fail

  pub line_fwd : (a : A) (r : Bytes) → 𝓐.ok a → line_dec (line_enc a ++ r) ≡ got a r
  unfolding line_dec line_enc
  line_fwd a r h = rw (
    append_assoc (text_of (𝓐.enc a)) (10 ∷ []) r,
    text_pairs (𝓐.enc a) (10 ∷ r) (𝓐.small a h),
    𝓐.fwd a (pairs (10 ∷ r)) h,
    line_ends (text_of (𝓐.enc a) ++ (10 ∷ r)) 0 (length (𝓐.enc a)) (line_here (𝓐.enc a) r (𝓐.small a h)),
    line_rest (𝓐.enc a) r,
  )

  pub line_bwd : (t : Bytes) (a : A) (r : Bytes) → line_dec t ≡ got a r → (t ≡ line_enc a ++ r) × 𝓐.ok a
  unfolding line_dec line_enc
  line_bwd t a r e =
      bind_got (𝓐.dec (pairs t)) _ a r e λ a₁ q p f.
      let g = if_got (ends_line_value true t 0 (length (𝓐.enc a₁))) _ a r f in
      let g1 = g.1 in
      let e1 : a₁ ≡ a = cc in
      let e2 : drop (2 * length (𝓐.enc a₁) + 1) t ≡ r = cc in
      let u = 𝓐.bwd (pairs t) a₁ q p in
      let k : take (length (𝓐.enc a₁)) (pairs t) ≡ 𝓐.enc a₁ = rw u.0 (take_at (𝓐.enc a₁) q (length (𝓐.enc a₁)) refl) in
      let w = line_split t (length (𝓐.enc a₁)) (ends_line t 0 (length (𝓐.enc a₁)) g.0) in
      let v : t ≡ text_of (𝓐.enc a₁) ++ (10 ∷ drop (2 * length (𝓐.enc a₁) + 1) t) = cc in
      rw (← e1, ← e2) (v ∙ sym (append_assoc (text_of (𝓐.enc a₁)) (10 ∷ []) (drop (2 * length (𝓐.enc a₁) + 1) t)), u.1)

  unfoldable pub line_c : Codec A
  unfolding line_enc
  line_c = record {
    ok = 𝓐.ok;
    enc = line_enc;
    dec = line_dec;
    fwd = line_fwd;
    bwd = line_bwd;
    small = λ a h. all_append _ (text_of (𝓐.enc a)) (10 ∷ []) (text_small (𝓐.enc a) (𝓐.small a h)) (omega arith, tt);
    most = λ a. 2 * 𝓐.most a + 1;
    fits = λ a h. let f = 𝓐.fits a h in let e = text_length (𝓐.enc a) in rw length-append (omega arith);
  }

  -- ---- a frame in the form that a flag says: a line of text, or its bytes
  abbrev pub form_enc : Bool → A → Bytes
  form_enc true = line_enc
  form_enc false = 𝓐.enc

  abbrev pub form_dec : Bool → Bytes → Got A
  form_dec true = line_dec
  form_dec false = 𝓐.dec

  abbrev pub form_most : Bool → A → ℕ
  form_most true a = 2 * 𝓐.most a + 1
  form_most false a = 𝓐.most a

  pub form_fwd : (hex : Bool) (a : A) (r : Bytes) → 𝓐.ok a → form_dec hex (form_enc hex a ++ r) ≡ got a r
  form_fwd true = line_fwd
  form_fwd false = 𝓐.fwd

  pub form_bwd : (hex : Bool) (s : Bytes) (a : A) (r : Bytes) → form_dec hex s ≡ got a r → (s ≡ form_enc hex a ++ r) × 𝓐.ok a
  form_bwd true = line_bwd
  form_bwd false = 𝓐.bwd

  pub form_small : (hex : Bool) (a : A) → 𝓐.ok a → All (λ b. b < 256) (form_enc hex a)
  unfolding line_c
  form_small true = line_c.small
  form_small false = 𝓐.small

  pub form_fits : (hex : Bool) (a : A) → 𝓐.ok a → length (form_enc hex a) ≤ form_most hex a
  unfolding line_c
  form_fits true = line_c.fits
  form_fits false = 𝓐.fits

-- its ok is that of the codec, in both forms
unfoldable pub form_c : {A : Type 0} → Bool → Codec A → Codec A
form_c hex 𝓐 = record {
  ok = 𝓐.ok;
  enc = form_enc 𝓐 hex;
  dec = form_dec 𝓐 hex;
  fwd = form_fwd 𝓐 hex;
  bwd = form_bwd 𝓐 hex;
  small = form_small 𝓐 hex;
  most = form_most 𝓐 hex;
  fits = form_fits 𝓐 hex;
}

pub form_raw : {A : Type 0} (𝓐 : Codec A) → form_c false 𝓐 ≡ 𝓐
unfolding form_c form_fwd form_bwd form_small form_fits
form_raw 𝓐 = refl

-- ---- what a reader finds in a view
pub record Framed {A : Type 0} (𝓐 : Codec A) (hex : Bool) (s : Bytes) (base n : ℕ) (a : A) : Type 0 where
  pub fine : 𝓐.ok a
  pub within : n ≤ length (view hex s base)
  pub here : 𝓐.dec (view hex s base) ≡ got a (drop n (view hex s base))
  pub bytes : take n (view hex s base) ≡ 𝓐.enc a
  pub size : length (𝓐.enc a) ≡ n
  pub after : after_in_value hex s base n ≤ length s

module _ {A : Type 0} (𝓐 : Codec A) where
  -- what is read from the front of v
  pub taken : (v : Bytes) (n : ℕ) (a : A) → 𝓐.dec v ≡ got a (drop n v) → n ≤ length v → (length (𝓐.enc a) ≡ n) × (take n v ≡ 𝓐.enc a) × 𝓐.ok a
  taken v n a e h =
      let u = 𝓐.bwd v a (drop n v) e in
      let l : length v ≡ length (𝓐.enc a) + length (drop n v) = ap length u.0 ∙ length-append (𝓐.enc a) (drop n v) in
      let z : length (𝓐.enc a) ≡ n = omega (arith, length-drop n v) in
      (z, ap (take n) u.0 ∙ take_at (𝓐.enc a) (drop n v) n z, u.1)

  line_frame : (s : Bytes) (base n : ℕ) (a : A) → 𝓐.dec (view true s base) ≡ got a (drop n (view true s base)) → n ≤ length (view true s base)
      → line_dec 𝓐 (drop base s) ≡ cond (ends_line_value true s base n) (got a (drop (base + 2 * n + 1) s)) fail
  unfolding line_dec view
  line_frame s base n a e h =
      let z = taken (pairs (drop base s)) n a e h in
      let d : drop (2 * n + 1) (drop base s) ≡ drop (base + 2 * n + 1) s = drop-drop (2 * n + 1) base s ∙ ap (λ (k : ℕ). drop k s) (let y : base + (2 * n + 1) ≡ base + 2 * n + 1 = omega arith in y) in
      rw (e, z.0, ends_shift s base n, d)

  line_good : (s : Bytes) (base n : ℕ) (a : A) → 𝓐.dec (view true s base) ≡ got a (drop n (view true s base)) → n ≤ length (view true s base)
      → ends_line_value true s base n ≡ true → line_dec 𝓐 (drop base s) ≡ got a (drop (base + 2 * n + 1) s)
  line_good s base n a e h t = line_frame s base n a e h ∙ rw t

  line_bad : (s : Bytes) (base : ℕ) → 𝓐.dec (view true s base) ≡ fail → line_dec 𝓐 (drop base s) ≡ fail
  unfolding line_dec view
  line_bad s base e = rw e

  raw_frame : (s : Bytes) (base n : ℕ) (a : A) → 𝓐.dec (view false s base) ≡ got a (drop n (view false s base)) → 𝓐.dec (drop base s) ≡ got a (drop (base + n) s)
  unfolding view
  raw_frame s base n a e = rw drop-drop at e

  raw_bad : (s : Bytes) (base : ℕ) → 𝓐.dec (view false s base) ≡ fail → 𝓐.dec (drop base s) ≡ fail
  unfolding view
  raw_bad s base e = e

module _ {A : Type 0} {𝓐 : Codec A} where
  -- a value found in the view, with the end of its line, is one found as a frame
  pub framed : (hex : Bool) {s : Bytes} {base n : ℕ} {W : A → Type 0} → base ≤ length s → Found 𝓐 (view hex s base) 0 n W → ends_line_value hex s base n ≡ true
      → Found (form_c hex 𝓐) s base (after_in_value hex s base n) (λ a. W a × Framed 𝓐 hex s base n a)
  unfolding form_c after_in_value ends_line_value
  framed true {s} {base} {n} b x t =
      let z = taken 𝓐 (view true s base) n x.value x.is x.within in
      let l = (ends_line s base n t).room in
      let f = line_good 𝓐 s base n x.value x.is x.within t in
      let g : after_in_value true s base n ≡ base + 2 * n + 1 = rw (lt-ltb (base + 2 * n) (length s) l) refl in
      record {
        value = x.value;
        is = rw g f;
        up = rw g (omega arith);
        within = rw g (omega arith);
        fact = (x.fact, record { fine = z.2; within = x.within; here = x.is; bytes = z.1; size = z.0; after = rw g (omega arith) });
      }
  framed false {s} {base} {n} b x t =
      let z = taken 𝓐 (view false s base) n x.value x.is x.within in
      let l : length (view false s base) ≡ length s - base = view_raw {hex = false} s base refl in
      let o = x.within in
      let w : base + n ≤ length s = omega arith in
      record {
        value = x.value;
        is = raw_frame 𝓐 s base n x.value x.is;
        up = omega arith;
        within = w;
        fact = (x.fact, record { fine = z.2; within = x.within; here = x.is; bytes = z.1; size = z.0; after = w });
      }

  pub frame : (hex : Bool) {s : Bytes} {base n : ℕ} {W : A → Type 0} → base ≤ length s → Found 𝓐 (view hex s base) 0 n W → ends_line_value hex s base n ≡ true
      → Found (form_c hex 𝓐) s base (after_in_value hex s base n) W
  frame hex {W = W} b x t = weaken W (framed hex b x t) (λ h. h.0)

  -- no value in the view is no frame
  pub frame_bad : (hex : Bool) {s : Bytes} {base : ℕ} → Fails 𝓐 (view hex s base) 0 → Fails (form_c hex 𝓐) s base
  unfolding form_c
  frame_bad true {s} {base} x = record { is = λ h. line_bad 𝓐 s base (x.is (omega arith)) }
  frame_bad false {s} {base} x = record { is = λ h. raw_bad 𝓐 s base (x.is (omega arith)) }

  -- nor is one whose line does not end
  pub frame_open : (hex : Bool) {s : Bytes} {base n : ℕ} {W : A → Type 0} → Found 𝓐 (view hex s base) 0 n W → ends_line_value hex s base n ≡ false → Fails (form_c hex 𝓐) s base
  unfolding form_c ends_line_value
  frame_open true {s} {base} {n} x t = record { is = λ h. line_frame 𝓐 s base n x.value x.is x.within ∙ rw t refl }
  frame_open false x t = false_true (sym t)

  -- in a list of frames that is known to be whole the end of the line needs no test
  pub turn_in : (hex : Bool) {s : Bytes} (k : ℕ) {base n : ℕ} {W : A → Type 0} → base ≤ length s → whole (form_c hex 𝓐) k s base ≡ true → 0 < k → Found 𝓐 (view hex s base) 0 n W
      → Turn (form_c hex 𝓐) s k base (after_in_value hex s base n) (λ a. W a × Framed 𝓐 hex s base n a)
  turn_in hex {s} k {base} {n} b w p x = cases (ends_line_value hex s base n)
      (λ t. turn k w p (framed hex b x t))
      (λ t. false_true (sym (whole_bad k b p (frame_open hex x t)) ∙ w))

-- nor does the value itself
pub stands_in : {A : Type 0} (𝓐 : Codec A) (hex : Bool) (s : Bytes) (k : ℕ) {base : ℕ} → base ≤ length s → whole (form_c hex 𝓐) k s base ≡ true → 0 < k → reads? 𝓐 (view hex s base) 0 ≡ true
stands_in {A} 𝓐 hex s k {base} b w p = go (𝓐.dec (view hex s base)) refl
  where
    go : (o : Got A) → 𝓐.dec (view hex s base) ≡ o → is_got o ≡ true
    go fail e = false_true (sym (whole_bad k b p (frame_bad {𝓐 = 𝓐} hex (record { is = λ h. e }))) ∙ w)
    go (got a r) e = refl

-- ---- a queue without its persisted height
pub record Store : Type 0 where
  pub limits : Limits
  pub revision : ℕ
  pub cursor : ℕ
  pub tip : Option Id
  pub counter : ℕ
  pub recs : List Rec

abbrev pub head_for : Store → Head
head_for st = record { limits = st.limits; revision = st.revision; cursor = st.cursor; tip = st.tip; counter = st.counter; count = length st.recs }

abbrev pub store_for : Head → List Rec → Store
store_for h l = record { limits = h.limits; revision = h.revision; cursor = h.cursor; tip = h.tip; counter = h.counter; recs = l }

-- a header with its count is that of its store
pub head_for_law : (h : Head) (l : List Rec) → length l ≡ h.count → head_for (store_for h l) ≡ h
head_for_law h l e = ap (λ (n : ℕ). record { limits = h.limits; revision = h.revision; cursor = h.cursor; tip = h.tip; counter = h.counter; count = n }) e

-- n values stand at `at` and end at `next`
pub record Many {A : Type 0} (𝓐 : Codec A) (s : Bytes) (at n next : ℕ) : Type 0 where
  pub is : whole 𝓐 n s at ≡ true
  pub end : drop next s ≡ behind 𝓐 n s at
  pub up : at ≤ next
  pub within : next ≤ length s

-- or they do not
pub record NotMany {A : Type 0} (𝓐 : Codec A) (s : Bytes) (at n : ℕ) : Type 0 where
  pub is : whole 𝓐 n s at ≡ false

got_cases : {A X : Type 0} (o : Got A) → (is_got o ≡ true → (a : A) → o ≡ got a (rest_of o) → X) → (is_got o ≡ false → o ≡ fail → X) → X
got_cases fail f g = g refl refl
got_cases (got a r) f g = f refl a refl

-- a header frame, and as many record frames as it says
module _ (𝓗 : Codec Head) (𝓡 : Codec Rec) where
  abbrev pub frames_ok : Store → Type 0
  frames_ok st = 𝓗.ok (head_for st) × All 𝓡.ok st.recs

  unfoldable pub frames_enc : Store → Bytes
  frames_enc st = 𝓗.enc (head_for st) ++ encs 𝓡 st.recs

  unfoldable pub frames_dec : Bytes → Got Store
  frames_dec s = 𝓗.dec s >>= λ h t. decs 𝓡 h.count t >>= λ l r. got (store_for h l) r

  pub frames_fwd : (st : Store) (r : Bytes) → frames_ok st → frames_dec (frames_enc st ++ r) ≡ got st r
  unfolding frames_enc frames_dec
  frames_fwd st r h = rw (append_assoc (𝓗.enc (head_for st)) (encs 𝓡 st.recs) r, 𝓗.fwd (head_for st) (encs 𝓡 st.recs ++ r) h.0, vec_fwd 𝓡 st.recs r h.1)

  pub frames_bwd : (s : Bytes) (st : Store) (r : Bytes) → frames_dec s ≡ got st r → (s ≡ frames_enc st ++ r) × frames_ok st
  unfolding frames_enc frames_dec
  frames_bwd s st r e =
      bind_got (𝓗.dec s) _ st r e λ h t p f.
      bind_got (decs 𝓡 h.count t) _ st r f λ l q p' f'.
      let e1 : store_for h l ≡ st = cc in
      let e2 : q ≡ r = cc in
      let u = 𝓗.bwd s h t p in
      let v = vec_bwd 𝓡 h.count t l q p' in
      let n = head_for_law h l v.1.1 in
      rw (← e1, ← e2, n) (cc (append_assoc (𝓗.enc h) (encs 𝓡 l) q, u.0, v.0), (u.1, v.1.0))

  unfoldable pub frames_c : Codec Store
  unfolding frames_enc
  frames_c = record {
    ok = frames_ok;
    enc = frames_enc;
    dec = frames_dec;
    fwd = frames_fwd;
    bwd = frames_bwd;
    small = λ st h. all_append _ (𝓗.enc (head_for st)) (encs 𝓡 st.recs) (𝓗.small (head_for st) h.0) (vec_small 𝓡 st.recs h.1);
    most = λ st. 𝓗.most (head_for st) + vec_most 𝓡 st.recs;
    fits = λ st h. let a = 𝓗.fits (head_for st) h.0 in let b = vec_fits 𝓡 st.recs h.1 in rw length-append (omega arith);
  }

  -- read: a header, and behind it a list that a scan found whole
  module _ {s : Bytes} {at : ℕ} where
    pub frames_fail : Fails 𝓗 s at → Fails frames_c s at
    unfolding frames_c frames_dec
    frames_fail x = record { is = λ h. rw (x.is h) refl }

    module _ {m count : ℕ} {W : Head → Type 0} (x : Found 𝓗 s at m (λ h. (h.count ≡ count) × W h)) where
      pub frames_read : {n : ℕ} → Many 𝓡 s m count n
          → Found frames_c s at n (λ st. W (head_for st) × ((st.recs ≡ list_at 𝓡 count s m) × ((whole 𝓡 count s m ≡ true) × (length st.recs ≡ count))))
      unfolding frames_c frames_dec whole list_at behind
      frames_read {n} y = got_cases (decs 𝓡 count (drop m s))
          (λ g l e. let v = vec_bwd 𝓡 count (drop m s) l _ e in let c = x.fact.0 in let f = head_for_law x.value l (v.1.1 ∙ sym c) in
          record {
            value = store_for x.value l;
            is = rw (x.is, c, e, ← y.end) refl;
            up = omega (arith, x.up, y.up);
            within = y.within;
            fact = (rw f x.fact.1, (rw e refl, (rw e refl, v.1.1)));
          })
          (λ g e. false_true (sym g ∙ y.is))

      pub frames_cut : NotMany 𝓡 s m count → Fails frames_c s at
      unfolding frames_c frames_dec whole
      frames_cut y = got_cases (decs 𝓡 count (drop m s))
          (λ g l e. false_true (sym y.is ∙ g))
          (λ g e. record { is = λ h. let c = x.fact.0 in rw (x.is, c, e) refl })

-- ---- the frames of a queue in a form: as bytes or as lines of text, under a header kind
abbrev pub head_in : Form → Codec Head
head_in form = form_c form.hex (head_k form.kind)

abbrev pub rec_in_value : Form → Codec Rec
rec_in_value form = form_c form.hex (rec_k form.kind)

unfoldable pub store_in : Form → Codec Store
store_in form = frames_c (head_in form) (rec_in_value form)

-- an area has bytes of the newest kind
abbrev pub area_form : Form
area_form = record { hex = false; kind = newest }

abbrev pub text_form : ℕ → Form
text_form k = record { hex = true; kind = k }

module _ (form : Form) {s : Bytes} {at : ℕ} where
  pub store_fail : Fails (head_in form) s at → Fails (store_in form) s at
  unfolding store_in
  store_fail x = frames_fail (head_in form) (rec_in_value form) x

  module _ {m count : ℕ} {W : Head → Type 0} (x : Found (head_in form) s at m (λ h. (h.count ≡ count) × W h)) where
    pub store_read : {n : ℕ} → Many (rec_in_value form) s m count n
        → Found (store_in form) s at n (λ st. W (head_for st) × ((st.recs ≡ list_at (rec_in_value form) count s m) × ((whole (rec_in_value form) count s m ≡ true) × (length st.recs ≡ count))))
    unfolding store_in
    store_read y = frames_read (head_in form) (rec_in_value form) x y

    pub store_cut : NotMany (rec_in_value form) s m count → Fails (store_in form) s at
    unfolding store_in
    store_cut y = frames_cut (head_in form) (rec_in_value form) x y

-- how long a text is: two digits a byte, and the lines' ends
pub line_length : {A : Type 0} (𝓐 : Codec A) (a : A) → length ((form_c true 𝓐).enc a) ≡ 2 * length (𝓐.enc a) + 1
unfolding form_c line_enc
line_length 𝓐 a = let e = text_length (𝓐.enc a) in rw length-append (omega arith)

pub lines_length : {A : Type 0} (𝓐 : Codec A) (l : List A) → length (encs (form_c true 𝓐) l) ≡ 2 * length (encs 𝓐 l) + length l
unfolding encs
lines_length 𝓐 [] = refl
lines_length 𝓐 (a ∷ l) = let i = lines_length 𝓐 l in let e = line_length 𝓐 a in simp length-append (omega arith)

pub store_length : (st : Store) → length ((store_in (text_form newest)).enc st) ≡ 2 * length ((store_in area_form).enc st) + (1 + length st.recs)
unfolding store_in frames_c frames_enc
store_length st =
    let i = lines_length rec_c st.recs in
    let h = line_length head_c (head_for st) in
    rw (form_raw head_c, form_raw rec_c) (simp length-append (omega arith))

abbrev pub store_of : Queue → Store
store_of q = record { limits = q.limits; revision = q.revision; cursor = q.cursor; tip = q.tip; counter = q.counter; recs = q.recs }

abbrev pub queue_with : ℕ → Store → Queue
queue_with n st = record { persisted = n; limits = st.limits; revision = st.revision; cursor = st.cursor; tip = st.tip; counter = st.counter; recs = st.recs }

-- the persisted height, and the frames as bytes
unfoldable pub queue_c : Codec Queue
queue_c = map_c (λ x. queue_with x.0 x.1) (λ q. (q.persisted, store_of q)) (λ x. refl) (λ q. refl) (pair_c (be_c 4) (store_in area_form))

module _ {s : Bytes} {at : ℕ} where
  pub queue_fail : Fails (be_c 4) s at → Fails queue_c s at
  unfolding queue_c
  queue_fail x = map_fails (λ x. queue_with x.0 x.1) (λ q. (q.persisted, store_of q)) (λ x. refl) (λ q. refl) (first (store_in area_form) x)

  module _ {m v : ℕ} (x : Found (be_c 4) s at m (λ n. n ≡ v)) where
    pub queue_read : {n : ℕ} {W : Store → Type 0} → Found (store_in area_form) s m n W → Found queue_c s at n (λ q. (q.persisted ≡ v) × W (store_of q))
    unfolding queue_c
    queue_read {W = W} y = mapped (λ x. queue_with x.0 x.1) (λ q. (q.persisted, store_of q)) (λ x. refl) (λ q. refl) (λ q. (q.persisted ≡ v) × W (store_of q)) (pair x y) (λ w. w)

    pub queue_cut : Fails (store_in area_form) s m → Fails queue_c s at
    unfolding queue_c
    queue_cut y = map_fails (λ x. queue_with x.0 x.1) (λ q. (q.persisted, store_of q)) (λ x. refl) (λ q. refl) (later (store_in area_form) x y)

-- the bytes of a queue, its ok in parts
pub queue_enc : (q : Queue) → queue_c.enc q ≡ be 4 q.persisted ++ (head_c.enc (head_for (store_of q)) ++ encs rec_c q.recs)
unfolding queue_c map_c pair_c be_c store_in frames_c frames_enc
queue_enc q = rw (form_raw head_c, form_raw rec_c)

pub image_enc : (k : ℕ) (st : Store) → (store_in (text_form k)).enc st ≡ line_enc (head_k k) (head_for st) ++ encs (rec_in_value (text_form k)) st.recs
unfolding store_in frames_c frames_enc form_c
image_enc k st = refl

pub store_ok : (form : Form) (st : Store) → (head_k form.kind).ok (head_for st) × All (rec_k form.kind).ok st.recs → (store_in form).ok st
unfolding store_in frames_c form_c
store_ok form st h = h

pub ok_store : (form : Form) (st : Store) → (store_in form).ok st → (head_k form.kind).ok (head_for st) × All (rec_k form.kind).ok st.recs
unfolding store_in frames_c form_c
ok_store form st h = h

pub queue_ok : (q : Queue) → q.persisted < 256 ^ 4 → (store_in area_form).ok (store_of q) → queue_c.ok q
unfolding queue_c map_c pair_c be_c
queue_ok q h k = (h, k)

pub ok_queue : (q : Queue) → queue_c.ok q → (q.persisted < 256 ^ 4) × (store_in area_form).ok (store_of q)
unfolding queue_c map_c pair_c be_c
ok_queue q h = h

pub head_cursor : (h : Head) → head_c.ok h → h.cursor < 256 ^ 4
unfolding head_k map_c pair_c be_c
head_cursor h k = k.1.1.1.0

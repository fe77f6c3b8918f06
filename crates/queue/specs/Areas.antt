-- What an area and an image hold: reading finds a queue exactly where its bytes stand.
use Rattle.std.specs.Prelude.{◌≡◌, refl, Bool, true, false, cond, ◌&&◌, [], ◌∷◌, ◌++◌, ℕ, zero, suc, ◌-◌, ◌≤◌, ltb, leb, eqb, length, take, drop, get_or, replicate}
use Rattle.std.proofs.Common.{ap, sym, ◌∙◌, append_assoc, append-nil, arith, take-append-drop, length-append, length-drop, take_at, length-take-le, drop-cons, ltb-true, ltb-false, leb-true, le-leb, eqb-true, eq-eqb, ne_eqb}
use Rattle.std.proofs.Math.Option.{Option, none, some}
use Rattle.std.proofs.lemmas.List.{length-replicate}
use Rattle.queue.specs.Codec.{Got, fail, got, cases, cond_cases, encs}
use Rattle.queue.specs.Lists.{and_true}
use Rattle.queue.specs.bytes.ReaderAs.{Fails, Found}
use Rattle.queue.specs.bytes.ReaderLaws.{false_true, drop_none}
use Rattle.queue.specs.Hex.{text_of, text_pairs}
use Rattle.queue.specs.bytes.ViewAs.{pairs, view}
use Rattle.queue.specs.layout.FrameCodec.{head_k}
use Rattle.queue.specs.layout.FormsCodec.{Store, head_for, line_enc, rec_in_value, store_in, area_form, text_form, queue_c, store_of, queue_with, image_enc, store_ok, ok_store, queue_ok, ok_queue, head_cursor}
use Rattle.queue.specs.theorems.OlderKinds.{recs_up, queue_said, said_queue, head_first, head_up, kind_byte}
use Rattle.queue.specs.paper.Records.{Bytes, Queue}
use Rattle.queue.specs.paper.Sound.{sound?, need}
use Rattle.queue.specs.paper.Kinds.{kind?, says?}

unfoldable pub zero? : Bytes → Bool
zero? [] = true
zero? (b ∷ s) = cond (eqb b 0) (zero? s) false

-- from one place to another
abbrev pub zero_in : Bytes → ℕ → ℕ → Bool
zero_in s from to = zero? (take (to - from) (drop from s))

-- the area: the queue's bytes, and zeros up to what its limits need
unfoldable pub layout : Queue → Bytes
layout q = queue_c.enc q ++ replicate (need q.limits - length (queue_c.enc q)) 0

-- the image under a header kind: a line of text for each frame
unfoldable pub image : ℕ → Queue → Bytes
image k q = (store_in (text_form k)).enc (store_of q)

zero_is : (s : Bytes) → zero? s ≡ true → s ≡ replicate (length s) 0
unfolding zero?
zero_is [] e = refl
zero_is (b ∷ s) e = cond_cases (eqb b 0) (zero? s) false true e
    (λ t e'. let p = eqb-true b 0 t in let i = zero_is s e' in cc)
    (λ t e'. false_true e')

zero_replicate : (n : ℕ) → zero? (replicate n 0) ≡ true
unfolding zero?
zero_replicate zero = refl
zero_replicate (suc n) = zero_replicate n

abbrev pub read_got : ℕ → Got Queue → Option Queue
read_got n fail = none
read_got n (got q r) =
    cond (sound? q && (leb (need q.limits) n && (leb (n - length r) (need q.limits) && zero? (take (need q.limits - (n - length r)) r)))) (some q) none

unfoldable pub read_area : Bytes → Option Queue
read_area s = read_got (length s) (queue_c.dec s)

-- the queue stands in the area
pub record Stands (s : Bytes) (q : Queue) : Type 0 where
  pub sound : sound? q ≡ true
  pub range : queue_c.ok q
  pub fits : length (queue_c.enc q) ≤ need q.limits
  pub later : Bytes
  pub is : s ≡ layout q ++ later

pub stands_reads : (s : Bytes) (q : Queue) → Stands s q → read_area s ≡ some q
unfolding read_area layout
stands_reads s q w =
    let r = replicate (need q.limits - length (queue_c.enc q)) 0 ++ w.later in
    let e : s ≡ queue_c.enc q ++ r = w.is ∙ append_assoc (queue_c.enc q) (replicate (need q.limits - length (queue_c.enc q)) 0) w.later in
    let d : queue_c.dec s ≡ got q r = rw e (queue_c.fwd q r w.range) in
    let l1 = length-append (queue_c.enc q) r in
    let l2 = length-append (replicate (need q.limits - length (queue_c.enc q)) 0) w.later in
    let l3 = length-replicate {A = ℕ} (need q.limits - length (queue_c.enc q)) 0 in
    let l0 = ap length e in
    let x : length s - length r ≡ length (queue_c.enc q) = omega arith in
    let t = take_at (replicate (need q.limits - length (queue_c.enc q)) 0) w.later (need q.limits - length (queue_c.enc q)) l3 in
    let f = w.fits in
    rw (d, w.sound, le-leb (need q.limits) (length s) (omega arith), x, le-leb (length (queue_c.enc q)) (need q.limits) w.fits, t, zero_replicate (need q.limits - length (queue_c.enc q)))

pub reads_stands : (s : Bytes) (q : Queue) → read_area s ≡ some q → Stands s q
unfolding read_area layout
reads_stands s q e = go (queue_c.dec s) refl e
  where
    go : (o : Got Queue) → queue_c.dec s ≡ o → read_got (length s) o ≡ some q → Stands s q
    go fail p e' = let z : ◌≡◌ {A = ℕ} 0 1 = cc in absurd (omega arith)
    go (got q₁ r) p e' = cond_cases (sound? q₁ && (leb (need q₁.limits) (length s) && (leb (length s - length r) (need q₁.limits) && zero? (take (need q₁.limits - (length s - length r)) r)))) (some q₁) none (some q) e'
        (λ t e''.
        let k : q₁ ≡ q = cc in
        let a = and_true (sound? q₁) _ t in
        let b = and_true (leb (need q₁.limits) (length s)) _ a.1 in
        let c = and_true (leb (length s - length r) (need q₁.limits)) _ b.1 in
        let w = queue_c.bwd s q₁ r p in
        let l = ap length w.0 in
        let l1 = length-append (queue_c.enc q₁) r in
        let x : length s - length r ≡ length (queue_c.enc q₁) = omega arith in
        let n1 = leb-true (need q₁.limits) (length s) b.0 in
        let f : length (queue_c.enc q₁) ≤ need q₁.limits = let y = leb-true (length s - length r) (need q₁.limits) c.0 in omega arith in
        let z : zero? (take (need q₁.limits - length (queue_c.enc q₁)) r) ≡ true = rw x at c.1 in
        let h = zero_is (take (need q₁.limits - length (queue_c.enc q₁)) r) z in
        let g = length-take-le (need q₁.limits - length (queue_c.enc q₁)) r (omega arith) in
        let u = take-append-drop (need q₁.limits - length (queue_c.enc q₁)) r in
        let v : r ≡ replicate (need q₁.limits - length (queue_c.enc q₁)) 0 ++ drop (need q₁.limits - length (queue_c.enc q₁)) r = cc in
        rw (← k) (record {
          sound = a.0;
          range = w.1;
          fits = f;
          later = drop (need q₁.limits - length (queue_c.enc q₁)) r;
          is = w.0 ∙ ap (λ y. queue_c.enc q₁ ++ y) v ∙ sym (append_assoc (queue_c.enc q₁) (replicate (need q₁.limits - length (queue_c.enc q₁)) 0) (drop (need q₁.limits - length (queue_c.enc q₁)) r));
        }))
        (λ t e''. let z : ◌≡◌ {A = ℕ} 0 1 = cc in absurd (omega arith))

-- an opened queue has the cursor's height as its persisted height
abbrev pub image_got : Got Store → Option Queue
image_got fail = none
image_got (got st []) = cond (sound? (queue_with st.cursor st)) (some (queue_with st.cursor st)) none
image_got (got st (b ∷ r)) = none

-- the header kind that a text tells: the byte of its first two digits
unfoldable pub kind_of : Bytes → ℕ
kind_of t = get_or (view true t 0) 0 0

-- the queue of which the text is the image, under the kind that it tells
unfoldable pub read_image : Bytes → Option Queue
read_image t = cond (kind? (kind_of t)) (image_got ((store_in (text_form (kind_of t))).dec t)) none

at_end : (st : Store) (s : Bytes) (next : ℕ) → next ≤ length s → image_got (got st (drop next s)) ≡ cond (eqb next (length s) && sound? (queue_with st.cursor st)) (some (queue_with st.cursor st)) none
at_end st s next h = cases (ltb next (length s))
    (λ t. let k = ltb-true next (length s) t in rw (drop-cons s next 0 k, ne_eqb next (length s) (λ e. omega arith)))
    (λ t. let k = ltb-false next (length s) t in rw (drop_none s next k, eq-eqb next (length s) (omega arith)))

-- the text is the queue's image under a kind that can say it
pub record Shows (t : Bytes) (q : Queue) : Type 0 where
  pub sound : sound? q ≡ true
  pub range : queue_c.ok q
  pub level : q.persisted ≡ q.cursor
  pub kind : ℕ
  pub known : kind? kind ≡ true
  pub says : says? kind q ≡ true
  pub is : t ≡ image kind q

chosen : (x q : Queue) → x ≡ q → sound? q ≡ true → cond (sound? x) (some x) none ≡ some q
chosen x q e h = rw (e, h)

image_kind : (k : ℕ) (q : Queue) → (head_k k).ok (head_for (store_of q)) → kind_of (image k q) ≡ k
unfolding kind_of image view line_enc
image_kind k q h =
    let f = head_first k (head_for (store_of q)) in
    let b = (head_k k).enc (head_for (store_of q)) in
    let r = (10 ∷ []) ++ encs (rec_in_value (text_form k)) q.recs in
    let e = image_enc k (store_of q) ∙ append_assoc (text_of b) (10 ∷ []) (encs (rec_in_value (text_form k)) q.recs) in
    ap (λ (x : Bytes). get_or (pairs x) 0 0) e ∙ ap (λ (x : Bytes). get_or x 0 0) (text_pairs b r ((head_k k).small (head_for (store_of q)) h) ∙ ap (λ (x : Bytes). x ++ pairs r) f)

-- what is shown under a kind tells it
pub shows_kind : (t : Bytes) (q : Queue) (w : Shows t q) → kind_of t ≡ w.kind
shows_kind t q w =
    let o = ok_store area_form (store_of q) (ok_queue q w.range).1 in
    let h = said_queue w.kind q (head_for (store_of q)) refl (kind_byte w.kind w.known) w.says o in
    ap kind_of w.is ∙ image_kind w.kind q h.0

pub shows_reads : (t : Bytes) (q : Queue) → Shows t q → read_image t ≡ some q
unfolding read_image image
shows_reads t q w =
    let k = w.kind in
    let e : queue_with q.cursor (store_of q) ≡ q = ap (λ (n : ℕ). queue_with n (store_of q)) (sym w.level) in
    let o = ok_store area_form (store_of q) (ok_queue q w.range).1 in
    let h = said_queue k q (head_for (store_of q)) refl (kind_byte k w.known) w.says o in
    let i = shows_kind t q w in
    let g : (store_in (text_form k)).ok (store_of q) = store_ok (text_form k) (store_of q) h in
    let d : (store_in (text_form k)).dec t ≡ got (store_of q) [] = ap (store_in (text_form k)).dec (w.is ∙ sym (append-nil ((store_in (text_form k)).enc (store_of q)))) ∙ (store_in (text_form k)).fwd (store_of q) [] g in
    rw (i, w.known, d) (chosen (queue_with q.cursor (store_of q)) q e w.sound)

pub reads_shows : (t : Bytes) (q : Queue) → read_image t ≡ some q → Shows t q
unfolding read_image image
reads_shows t q e = cond_cases (kind? (kind_of t)) (image_got ((store_in (text_form (kind_of t))).dec t)) none (some q) e
    (λ known e₁. go known ((store_in (text_form (kind_of t))).dec t) refl e₁)
    (λ known e₁. let z : ◌≡◌ {A = ℕ} 0 1 = cc in absurd (omega arith))
  where
    go : kind? (kind_of t) ≡ true → (o : Got Store) → (store_in (text_form (kind_of t))).dec t ≡ o → image_got o ≡ some q → Shows t q
    go known fail p e' = let z : ◌≡◌ {A = ℕ} 0 1 = cc in absurd (omega arith)
    go known (got st (b ∷ r)) p e' = let z : ◌≡◌ {A = ℕ} 0 1 = cc in absurd (omega arith)
    go known (got st []) p e' = cond_cases (sound? (queue_with st.cursor st)) (some (queue_with st.cursor st)) none (some q) e'
        (λ h e''.
        let i : queue_with st.cursor st ≡ q = cc in
        let u = (store_in (text_form (kind_of t))).bwd t st [] p in
        let v = ok_store (text_form (kind_of t)) st u.1 in
        let w = head_up (kind_of t) (head_for st) v.0 in
        rw (← i) (record {
          sound = h;
          range = queue_ok (queue_with st.cursor st) (head_cursor (head_for st) w) (store_ok area_form st (w, recs_up (kind_of t) st.recs v.1));
          level = refl;
          kind = kind_of t;
          known = known;
          says = queue_said (kind_of t) (queue_with st.cursor st) (head_for st) refl v;
          is = u.0 ∙ append-nil ((store_in (text_form (kind_of t))).enc st);
        }))
        (λ h e''. let z : ◌≡◌ {A = ℕ} 0 1 = cc in absurd (omega arith))

-- ---- what a reader of the frames finds
module _ {s : Bytes} where
  pub area_found : {next : ℕ} {W : Queue → Type 0} → Found queue_c s 0 next W
      → (q : Queue) × W q × (read_area s ≡ cond (sound? q && (leb (need q.limits) (length s) && (leb next (need q.limits) && zero? (take (need q.limits - next) (drop next s))))) (some q) none)
  unfolding read_area
  area_found {next} x =
      let l = length-drop next s in
      let o = x.within in
      let e : length s - length (drop next s) ≡ next = omega arith in
      (x.value, x.fact, rw (x.is, e) refl)

  pub area_none : Fails queue_c s 0 → read_area s ≡ none
  unfolding read_area
  area_none x = rw (x.is (omega arith)) refl

  module _ (k : ℕ) (e : k ≡ kind_of s) (g : kind? k ≡ true) where
    pub image_found : {next : ℕ} {W : Store → Type 0} → Found (store_in (text_form k)) s 0 next W
        → (st : Store) × W st × (read_image s ≡ cond (eqb next (length s) && sound? (queue_with st.cursor st)) (some (queue_with st.cursor st)) none)
    unfolding read_image
    image_found {next} x = (x.value, x.fact, rw (← e, g, x.is) (at_end x.value s next x.within))

    pub image_none : Fails (store_in (text_form k)) s 0 → read_image s ≡ none
    unfolding read_image
    image_none x = rw (← e, g, x.is (omega arith)) refl

pub image_unknown : (s : Bytes) (k : ℕ) → k ≡ kind_of s → kind? k ≡ false → read_image s ≡ none
unfolding read_image
image_unknown s k e g = rw (← e, g)

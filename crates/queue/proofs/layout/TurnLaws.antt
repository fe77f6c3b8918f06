-- One law for every loop over encoded values. F st l is what the loop has still to work out, from the state st on over l. Assumes nothing.
use Rattle.std.specs.Prelude.{◌≡◌, refl, Bool, true, List, [], ◌∷◌, ℕ, ◌+◌, ◌-◌, ◌≤◌, ◌<◌, leb, length, take, drop, ◌++◌}
use Rattle.std.proofs.Common.{ap, sym, ◌∙◌, arith, le_refl, append_assoc, leb-true, leb-false, length-append, length-drop, drop_at, take_at, drop-drop}
use Rattle.queue.specs.Codec.{Bytes, Got, fail, got, Codec, encs, cases}
use Rattle.queue.specs.bytes.Parts.{part}
use Rattle.queue.proofs.bytes.ReadLaws.{id_enc}
use Rattle.queue.specs.bytes.ReaderAs.{Found, whole, list_at, reads?}
use Rattle.queue.specs.bytes.ReaderLaws.{Turn, turn, none_left, false_true, whole_bad, not_spanned}
use Rattle.queue.specs.layout.FrameCodec.{rec_k, rec_c, id_c, spans_id}
use Rattle.queue.specs.layout.FormsCodec.{form_c, after_in_value, Framed, turn_in, stands_in, rec_in_value}
use Rattle.queue.specs.bytes.ViewAs.{view}
use Rattle.queue.specs.layout.FrameAs.{SeenUnder, SeenAs}
use Rattle.queue.specs.paper.Records.{Id, Rec}
use Rattle.queue.specs.paper.Kinds.{newest}
use Rattle.queue.specs.declared.layout.frame.Form.{Form}
use Rattle.queue.specs.declared.layout.frame.Seen.{Seen}

pub record Scan {A S X : Type 0} (𝓐 : Codec A) (F : S → List A → X) (s : Bytes) (n at : ℕ) (st₀ : S) (i left : ℕ) (st : S) : Type 0 where
  pub within : i ≤ length s
  pub all : whole 𝓐 left s i ≡ true
  pub few : left ≤ n
  pub same : F st (list_at 𝓐 left s i) ≡ F st₀ (list_at 𝓐 n s at)

module _ {A S X : Type 0} {𝓐 : Codec A} {F : S → List A → X} {s : Bytes} {n at : ℕ} {st₀ st : S} {i left : ℕ} (x : Scan 𝓐 F s n at st₀ i left st) where
  pub here : {next : ℕ} {W : A → Type 0} → 0 < left → Found 𝓐 s i next W → Turn 𝓐 s left i next W
  here p r = turn left x.all p r

  pub on : {next : ℕ} {W : A → Type 0} (st' : S) → 0 < left → (t : Turn 𝓐 s left i next W) → F st (t.item ∷ list_at 𝓐 (left - 1) s next) ≡ F st' (list_at 𝓐 (left - 1) s next) → Scan 𝓐 F s n at st₀ next (left - 1) st'
  on st' p t e = record { within = t.within; all = t.rest; few = omega (arith, x.few); same = sym e ∙ ap (F st) (sym t.list) ∙ x.same }

  pub stop : {next : ℕ} {W : A → Type 0} {b : X} → (t : Turn 𝓐 s left i next W) → F st (t.item ∷ list_at 𝓐 (left - 1) s next) ≡ b → b ≡ F st₀ (list_at 𝓐 n s at)
  stop t e = sym e ∙ ap (F st) (sym t.list) ∙ x.same

  pub end : left ≡ 0 → F st [] ≡ F st₀ (list_at 𝓐 n s at)
  end z = ap (F st) (sym (none_left 𝓐 s left i z).0) ∙ x.same

pub start : {A S X : Type 0} (𝓐 : Codec A) (F : S → List A → X) (s : Bytes) (n at : ℕ) (st : S) → at ≤ length s → whole 𝓐 n s at ≡ true → Scan 𝓐 F s n at st at n st
start 𝓐 F s n at st h w = record { within = h; all = w; few = le_refl n; same = refl }

-- ---- the ids of a list: one stands at the place of a turn
id_there : (v : Bytes) (i : ℕ) (y : Id) (r : Bytes) → id_c.dec (drop i v) ≡ got y r → i ≤ length v → Found id_c v i (i + 32) (λ y. y ≡ part 32 v i)
unfolding part
id_there v i y r e h =
    let b = id_c.bwd (drop i v) y r e in
    let z = spans_id.size y b.1 in
    let k = ap length b.0 ∙ length-append (id_c.enc y) r in
    let d : r ≡ drop (i + 32) v = sym (drop_at (id_c.enc y) r 32 z) ∙ ap (drop 32) (sym b.0) ∙ drop-drop 32 i v in
    record {
      value = y;
      is = e ∙ ap (λ (t : Bytes). got y t) d;
      up = omega arith;
      within = omega (arith, k, length-drop i v);
      fact = sym (id_enc y) ∙ sym (take_at (id_c.enc y) r 32 z) ∙ ap (take 32) (sym b.0);
    }

pub id_fits : (v : Bytes) {i left : ℕ} → i ≤ length v → whole id_c left v i ≡ true → 0 < left → i + 32 ≤ length v
id_fits v {i} {left} h w p = cases (leb (i + 32) (length v))
    (λ t. leb-true (i + 32) (length v) t)
    (λ t. let k = leb-false (i + 32) (length v) t in false_true (sym (whole_bad left h p (not_spanned spans_id (omega arith))) ∙ w))

-- and is this
pub id_found : {S X : Type 0} {F : S → List Id → X} {v : Bytes} {n at : ℕ} {st₀ st : S} {i left : ℕ} → Scan id_c F v n at st₀ i left st → 0 < left → Found id_c v i (i + 32) (λ y. y ≡ part 32 v i)
id_found {v = v} {i = i} {left} x p = go (id_c.dec (drop i v)) refl
  where
    go : (o : Got Id) → id_c.dec (drop i v) ≡ o → Found id_c v i (i + 32) (λ y. y ≡ part 32 v i)
    go fail e = false_true (sym (whole_bad left x.within p (record { is = λ h. e })) ∙ x.all)
    go (got y r) e = id_there v i y r e x.within

pub id_room : {S X : Type 0} {F : S → List Id → X} {v : Bytes} {n at : ℕ} {st₀ st : S} {i left : ℕ} → Scan id_c F v n at st₀ i left st → 0 < left → i + 32 ≤ length v
id_room {v = v} x p = id_fits v x.within x.all p

-- ---- the records of a queue in a form, each read from its view; j is where the next one starts
abbrev pub SeenForm : Form → Bytes → ℕ → ℕ → Seen → Rec → Type 0
SeenForm form s i m y r = SeenUnder form.kind (view form.hex s i) y r × Framed (rec_k form.kind) form.hex s i m r

abbrev pub FoundForm : Form → Bytes → ℕ → ℕ → Seen → Type 0
FoundForm form s i m y = Found (rec_k form.kind) (view form.hex s i) 0 m (SeenUnder form.kind (view form.hex s i) y)

module _ {S X : Type 0} (form : Form) {F : S → List Rec → X} {s : Bytes} {n at : ℕ} {st₀ st : S} {i left : ℕ} (x : Scan (rec_in_value form) F s n at st₀ i left st) where
  -- a record stands at the place of a turn
  pub stands_here : 0 < left → reads? (rec_k form.kind) (view form.hex s i) 0 ≡ true
  stands_here p = stands_in (rec_k form.kind) form.hex s left x.within x.all p

  pub seen_in : {m : ℕ} {y : Seen} → 0 < left → FoundForm form s i m y → Turn (rec_in_value form) s left i (after_in_value form.hex s i m) (SeenForm form s i m y)
  seen_in p r = turn_in form.hex left x.within x.all p r

  pub see_in : {m j : ℕ} {y : Seen} → 0 < left → FoundForm form s i m y → j ≡ after_in_value form.hex s i m → Turn (rec_in_value form) s left i j (SeenForm form s i m y)
  see_in p r e = rw e (seen_in p r)

-- ---- under the newest kind
abbrev pub SeenIn : Bool → Bytes → ℕ → ℕ → Seen → Rec → Type 0
SeenIn hex s i m y r = SeenAs (view hex s i) y r × Framed rec_c hex s i m r

abbrev pub FoundRec : Bool → Bytes → ℕ → ℕ → Seen → Type 0
FoundRec hex s i m y = Found rec_c (view hex s i) 0 m (SeenAs (view hex s i) y)

module _ {S X : Type 0} (hex : Bool) {F : S → List Rec → X} {s : Bytes} {n at : ℕ} {st₀ st : S} {i left : ℕ} (x : Scan (form_c hex rec_c) F s n at st₀ i left st) where
  pub stands : 0 < left → reads? rec_c (view hex s i) 0 ≡ true
  stands p = stands_in rec_c hex s left x.within x.all p

  pub seen : {m : ℕ} {y : Seen} → 0 < left → FoundRec hex s i m y → Turn (form_c hex rec_c) s left i (after_in_value hex s i m) (SeenIn hex s i m y)
  seen p r = seen_in (record { hex = hex; kind = newest }) x p r

  pub see : {m j : ℕ} {y : Seen} → 0 < left → FoundRec hex s i m y → j ≡ after_in_value hex s i m → Turn (form_c hex rec_c) s left i j (SeenIn hex s i m y)
  see p r e = see_in (record { hex = hex; kind = newest }) x p r e

pub encs_append : (a b : List Rec) → encs rec_c (a ++ b) ≡ encs rec_c a ++ encs rec_c b
unfolding encs
encs_append [] b = refl
encs_append (r ∷ a) b = rw (encs_append a b) (sym (append_assoc (rec_c.enc r) (encs rec_c a) (encs rec_c b)))

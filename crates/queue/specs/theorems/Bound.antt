-- Every sound queue fits its area; so an area and an image are read as a queue exactly where they are its bytes.
use Rattle.std.specs.Prelude.{◌≡◌, refl, Bool, true, false, not, List, [], ◌∷◌, ◌++◌, ℕ, ◌+◌, ◌*◌, ◌≤◌, length, drop}
use Rattle.std.proofs.Common.{ap, sym, ◌∙◌, arith, mul-le-mul_right, length-append, length-drop, drop_at}
use Rattle.std.proofs.Math.Option.{Option, none, some}
use Rattle.std.proofs.lemmas.List.{length-replicate}
use Rattle.queue.specs.Codec.{All, byte_c, be_c, pair_c, map_c, opt_c, vec_c, counted_c, vec_most}
use Rattle.queue.specs.layout.Choice.{then_c}
use Rattle.queue.specs.layout.FrameCodec.{Head, tag_c, id_c, label_c, terms_k, terms_c, held_k, body_k, body_c, place_c, rec_k, rec_c, four_c, sixteen_c, limits_k, limits_c, head_k, head_c}
use Rattle.queue.specs.layout.FormsCodec.{head_for, store_of, form_c, area_form, store_in, frames_c, queue_c, ok_store}
use Rattle.queue.specs.Areas.{layout, read_area, kind_of, read_image, stands_reads, reads_stands, shows_kind, shows_reads, reads_shows}
use Rattle.queue.specs.theorems.Plain.{area_plain, image_plain}
use Rattle.queue.specs.theorems.SoundParts.{Right, sound_of_law, Fit, fit_of, fit_sound, fit_ok}
use Rattle.queue.specs.paper.Records.{Bytes, Id, Limits, Terms, Held, Rec, Queue}
use Rattle.queue.specs.paper.Lists.{is_some, one}
use Rattle.queue.specs.paper.Sound.{sound?, need, holder?, inputs, outputs, reads, content, label_len, holders, holder_bytes, tombstones}
use Rattle.queue.specs.paper.Area.{area_bytes, image_under, image_bytes, over}
use Rattle.queue.specs.paper.Kinds.{newest, kind?, says?}
use Rattle.queue.specs.theorems.OlderKinds.{newest_says}

pub bytes_most : (s : Bytes) → vec_most byte_c s ≡ length s
unfolding byte_c
bytes_most [] = refl
bytes_most (b ∷ s) = let k = bytes_most s in omega arith

id_most : (i : Id) → id_c.ok i → id_c.most i ≡ 32
unfolding id_c vec_c
id_most i h = bytes_most i ∙ h.1

ids_most : (l : List Id) → All id_c.ok l → vec_most id_c l ≡ 32 * length l
ids_most [] h = refl
ids_most (i ∷ l) h = let k = ids_most l h.1 in let e = id_most i h.0 in omega arith

pub number_most : (n : ℕ) (o : Option ℕ) → (opt_c (be_c n)).most o ≤ n + 1
unfolding opt_c be_c
number_most n none = omega arith
number_most n (some a) = omega arith

label_most : (o : Option Bytes) → label_len o ≤ 200 → label_c.most o ≤ 202
unfolding label_c opt_c counted_c
label_most none h = omega arith
label_most (some s) h = let e = bytes_most s in omega arith

terms_most : (t : Terms) → label_len t.label ≤ 200 → terms_c.most t ≤ 252
unfolding terms_k map_c pair_c be_c
terms_most t h =
    let a = number_most 8 t.due in
    let b = number_most 4 t.due_height in
    let c = label_most t.label h in
    omega arith

pub place_most : (o : Option (ℕ × Id)) → place_c.ok o → place_c.most o ≤ 37
unfolding place_c opt_c pair_c be_c
place_most none h = omega arith
place_most (some x) h = let e = id_most x.1 h.1 in omega arith

body_most : (K : ℕ) (o : Option Held) → body_c.ok o → length (inputs o) ≤ K → length (outputs o) ≤ K → length (reads o) ≤ K
    → body_c.most o ≤ 1 + one (is_some o) * (10 + 96 * K) + length (content o)
unfolding body_k held_k map_c opt_c pair_c counted_c
body_most K none h i o d = omega arith
body_most K (some x) h i o d =
    let a = ids_most x.ins h.0.0 in
    let b = ids_most x.outs h.1.0.0 in
    let e = ids_most x.reads h.1.1.0.0 in
    let c = bytes_most x.bytes in
    omega arith

-- document 01's "a tombstone at most 330", one byte for the caller, and four for the priority
rec_most : (K c : ℕ) (r : Rec) → rec_c.ok r → Right K c r → rec_c.most r ≤ 335 + one (holder? r) * (10 + 96 * K) + length (content r.body)
unfolding rec_k map_c pair_c tag_c be_c
rec_most K c r h s =
    let a = id_most r.id h.1.0 in
    let b = terms_most r.terms s.label in
    let d = place_most r.place h.1.1.1.1.1.1.0 in
    let e = body_most K r.body h.1.1.1.1.1.1.1.1.1 s.ins s.outs s.reads in
    omega arith

recs_most : (K c : ℕ) (l : List Rec) → All rec_c.ok l → All (Right K c) l → vec_most rec_c l ≤ 335 * (holders l + tombstones l) + holders l * (10 + 96 * K) + holder_bytes l
recs_most K c [] h s = omega arith
recs_most K c (r ∷ l) h s =
    let i = recs_most K c l h.1 s.1 in
    let a = rec_most K c r h.0 s.0 in
    let b = kinds (holder? r) in
    omega arith
  where
    kinds : (t : Bool) → one t + one (not t) ≡ 1
    kinds true = refl
    kinds false = refl

tip_most : (o : Option Id) → (opt_c id_c).ok o → (opt_c id_c).most o ≤ 33
unfolding opt_c
tip_most none h = omega arith
tip_most (some x) h = let e = id_most x h in omega arith

numbers_most : (l : List ℕ) → vec_most (be_c 4) l ≡ 4 * length l
unfolding be_c
numbers_most [] = refl
numbers_most (n ∷ l) = let k = numbers_most l in omega arith

limits_most : (m : Limits) → limits_c.ok m → limits_c.most m ≡ 80
unfolding limits_k four_c sixteen_c vec_c map_c then_c pair_c be_c
limits_most m h = let e = numbers_most m.shares in let k = h.1.1 in omega arith

head_most : (h : Head) → head_c.ok h → head_c.most h ≤ 138
unfolding head_k map_c pair_c tag_c be_c
head_most h k = let e = tip_most h.tip k.1.1.1.1.0 in let l = limits_most h.limits k.1.0 in omega arith

pub fits_need : (q : Queue) → sound? q ≡ true → queue_c.ok q → length (queue_c.enc q) ≤ need q.limits
unfolding queue_c map_c pair_c be_c store_in frames_c form_c need
fits_need q e o =
    let s = sound_of_law q e in
    let k = ok_store area_form (store_of q) o.1 in
    let a = queue_c.fits q o in
    let b = head_most (head_for (store_of q)) k.0 in
    let c = recs_most q.limits.K q.counter q.recs k.1 s.right in
    let d = mul-le-mul_right (512 + 96 * q.limits.K) s.few_holders in
    let f = s.few_bytes in
    let g = s.few_tombs in
    omega arith

module _ (q : Queue) (sound : sound? q ≡ true) (ok : queue_c.ok q) where
  pub area_size : length (area_bytes q) ≡ need q.limits
  unfolding layout
  area_size =
      let f = fits_need q sound ok in
      rw (← (area_plain q)) (simp (length-append, length-replicate) (omega arith))

  pub stands : (later : Bytes) → read_area (area_bytes q ++ later) ≡ some q
  stands later = stands_reads (area_bytes q ++ later) q (record { sound = sound; range = ok; fits = fits_need q sound ok; later = later; is = rw (area_plain q) })

  -- what a write of its bytes leaves of lent ones
  pub over_reads : (d : Bytes) → read_area (over (area_bytes q) d) ≡ some q
  unfolding over
  over_reads d = stands (drop (length (area_bytes q)) d)

  pub over_size : (d : Bytes) → need q.limits ≤ length d → length (over (area_bytes q) d) ≡ length d
  unfolding over
  over_size d h = let e = area_size in simp (length-append, length-drop) (omega arith)

  pub over_later : (d : Bytes) → drop (need q.limits) (over (area_bytes q) d) ≡ drop (need q.limits) d
  unfolding over
  over_later d = rw area_size (drop_at (area_bytes q) (drop (need q.limits) d) (need q.limits) area_size)

pub reads_area : (s : Bytes) (q : Queue) → read_area s ≡ some q → (sound? q ≡ true) × (queue_c.ok q × (s ≡ area_bytes q ++ drop (need q.limits) s))
reads_area s q e =
    let w = reads_stands s q e in
    let p : s ≡ area_bytes q ++ w.later = w.is ∙ rw (area_plain q) in
    let z = area_size q w.sound w.range in
    let d : drop (need q.limits) s ≡ w.later = ap (drop (need q.limits)) p ∙ drop_at (area_bytes q) w.later (need q.limits) z in
    (w.sound, (w.range, p ∙ rw d))

-- bytes that hold a queue are left as they are by a write of it
pub over_same : (s : Bytes) (q : Queue) → read_area s ≡ some q → over (area_bytes q) s ≡ s
unfolding over
over_same s q e = let w = reads_area s q e in rw (area_size q w.0 w.1.0) (sym w.1.1)

-- an area is long enough for its queue
pub reads_size : (s : Bytes) (q : Queue) → read_area s ≡ some q → need q.limits ≤ length s
reads_size s q e =
    let w = reads_area s q e in
    let z = area_size q w.0 w.1.0 in
    omega (arith, simp length-append at (ap length w.1.1))

-- under every kind that can say it, the image of a sound queue is read as that queue
pub image_reads : (k : ℕ) (q : Queue) → kind? k ≡ true → says? k q ≡ true → sound? q ≡ true → queue_c.ok q → q.persisted ≡ q.cursor → read_image (image_under k q) ≡ some q
image_reads k q g s e o h = shows_reads (image_under k q) q (record { sound = e; range = o; level = h; kind = k; known = g; says = s; is = sym (image_plain k q) })

-- what is read is a sound queue, and the text its image under a kind that can say it
pub reads_image : (t : Bytes) (q : Queue) → read_image t ≡ some q
    → (sound? q ≡ true) × (queue_c.ok q × ((q.persisted ≡ q.cursor) × ((k : ℕ) × (kind? k ≡ true) × (says? k q ≡ true) × (t ≡ image_under k q))))
reads_image t q e = let w = reads_shows t q e in (w.sound, (w.range, (w.level, (w.kind, w.known, w.says, w.is ∙ image_plain w.kind q))))

-- and that kind is the one that the text tells
pub reads_told : (t : Bytes) (q : Queue) → read_image t ≡ some q → (says? (kind_of t) q ≡ true) × (t ≡ image_under (kind_of t) q)
reads_told t q e =
    let w = reads_shows t q e in
    let k = shows_kind t q w in
    (ap (λ (j : ℕ). says? j q) k ∙ w.says, w.is ∙ image_plain w.kind q ∙ ap (λ (j : ℕ). image_under j q) (sym k))

-- ---- the same of a queue that fits

pub fit_stands : (q : Queue) → Fit q → (later : Bytes) → read_area (area_bytes q ++ later) ≡ some q
fit_stands q f later = stands q (fit_sound q f) (fit_ok q f) later

pub fit_over : (q : Queue) → Fit q → (d : Bytes) → read_area (over (area_bytes q) d) ≡ some q
fit_over q f d = over_reads q (fit_sound q f) (fit_ok q f) d

pub fit_image : (q : Queue) → Fit q → q.persisted ≡ q.cursor → read_image (image_bytes q) ≡ some q
fit_image q f h = image_reads newest q refl (newest_says q) (fit_sound q f) (fit_ok q f) h

pub reads_fit : (s : Bytes) (q : Queue) → read_area s ≡ some q → Fit q
reads_fit s q e = let w = reads_area s q e in fit_of q w.0 w.1.0

pub opens_fit : (t : Bytes) (q : Queue) → read_image t ≡ some q → Fit q
opens_fit t q e = let w = reads_image t q e in fit_of q w.0 w.1.0

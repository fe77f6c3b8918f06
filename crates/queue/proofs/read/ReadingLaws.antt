-- The reading calls: a search by id, what was looked up, and each exit. Assumes nothing.
use Rattle.std.specs.Prelude.{◌≡◌, refl, Bool, true, false, ◌&&◌, ◌||◌, List, [], ◌∷◌, ◌++◌, ℕ, ◌+◌, ◌-◌, ◌*◌, ◌^◌, ◌≤◌, ◌<◌, ltb, leb, eqb, length, drop, take, Result, MatchOption, MatchResult, ok_or}
use Rattle.std.proofs.Common.{ap, sym, ◌∙◌, append_assoc, arith, zero-add, length-append, length-drop, drop-drop, take_all, take_at, drop_at, length-take-le, eq-eqb, ne_eqb, lt-ltb, le-ltb}
use Rattle.std.proofs.Math.Option.{Option, none, some}
use Rattle.std.specs.Prelude as std
use Rattle.std.proofs.lemmas.List.{drop-append-le}
use Rattle.queue.specs.theorems.Bound.{bytes_most, number_most, place_most}
use Rattle.queue.specs.Codec as codec
use Rattle.queue.specs.Codec.{cases, Got, fail, got, decs, encs, be_c, pair_c, map_c, opt_c, vec_c, counted_c, vec_bwd}
use Rattle.queue.specs.bytes.PutAs.{Put}
use Rattle.queue.specs.theorems.Plain.{opt_plain, terms_plain, place_plain, ids_plain, id_plain, rec_plain, body_plain, head_plain}
use Rattle.queue.specs.paper.Kinds.{newest}
use Rattle.queue.specs.layout.FrameCodec.{rec_k, rec_c, id_c, terms_k, terms_c, label_c, place_c, body_c, spans_id}
use Rattle.queue.specs.bytes.ReaderAs.{is_got, val_of, whole, list_at, reads?}
use Rattle.queue.specs.bytes.ReaderLaws.{false_true, spans_vec}
use Rattle.queue.specs.bytes.ViewAs.{view}
use Rattle.queue.specs.layout.FormsCodec.{form_c, after_in_value, turn_in, stands_in}
use Rattle.queue.specs.Areas.{read_area}
use Rattle.queue.specs.layout.FrameAs.{terms_at, facts_of, times, heights, SeenAs}
use Rattle.queue.specs.check.RulesAs.{time_due, height_due, due_f, weight, sum}
use Rattle.queue.specs.check.AreaAs.{AreaAs, AreaIn}
use Rattle.queue.specs.bytes.Parts.{part}
use Rattle.queue.specs.read.ReadingAs.{Here, StandsAt, off, hit, look_rec, look_in, look_of, LookedUp, LookRefused, SignedAt, SignedRefused, part_in, EntryIn, entry_at, entry_len_value}
use Rattle.queue.specs.paper.Records.{Bytes, Id, Terms, Held, Rec, Queue}
use Rattle.queue.specs.paper.Lists.{is_some, maybe, one, any?, find, concat, is_empty?}
use Rattle.queue.specs.paper.Ids.{cmp_l}
use Rattle.queue.specs.paper.Sound.{inputs, reads, content, label_len}
use Rattle.queue.specs.paper.Area.{terms_bytes, place_bytes, head_bytes, rec_bytes, flagged, id_list_bytes, held_under, held_bytes, rec_under}
use Rattle.queue.specs.paper.Changing.{named?, reached?, due?}
use Rattle.queue.specs.Checked.{written}
use Rattle.queue.specs.paper.Calls.{id?, entry_bytes, cursor_bytes, told_out, look_up, entry_of, end_of, signed_part, signed_bytes_of, number_of, read_of}
use Rattle.queue.specs.declared.Kind.TheVariants.{Nothing}
use Rattle.queue.specs.paper.Answer.{Answer, Refused, Done}
use Rattle.queue.specs.declared.layout.frame.Time.{Time}
use Rattle.queue.specs.declared.layout.frame.Height.{Height}
use Rattle.queue.specs.declared.check.rules.Query.TheVariants.{Due}
use Rattle.queue.specs.declared.layout.frame.Seen.{Seen}
use Rattle.queue.specs.declared.check.area.Area.{Area}
use Rattle.queue.specs.declared.read.reading.Place.{Place}
use Rattle.queue.specs.declared.refusal.Refusal.{Refusal}
use Rattle.queue.specs.declared.refusal.Refusal.TheVariants.{NotFound}
use Rattle.queue.specs.Refusal.{refusal_number}
use Rattle.queue.proofs.bytes.PutLaws.{length_be, recast, put_over}
use Rattle.queue.proofs.bytes.PutByteLaws.{be_same, between}
use Rattle.queue.proofs.layout.TurnLaws.{Scan, on, stop, end, SeenIn, FoundRec, seen, see}

-- ---- what values say of each other
some_same : {A : Type 0} {a b : A} → some a ≡ some b → a ≡ b
some_same e = cc

off_same : {m n : ℕ} → off m ≡ off n → m ≡ n
off_same e = cc

hit_same : {r x : Rec} → hit r ≡ hit x → r ≡ x
hit_same e = cc

hit_off : {X : Type 0} {r : Rec} {n : ℕ} → hit r ≡ off n → X
hit_off e = let z : ◌≡◌ {A = ℕ} 0 1 = cc in absurd (omega arith)

-- ---- finding
unfoldable pub find_f : Id → ℕ → List Rec → Option Rec × ℕ
find_f z at l = (find (named? z) l, at + end_of z l)

pub one_here : (s : Bytes) (i next : ℕ) (r : Rec) → (form_c false rec_c).dec (drop i s) ≡ got r (drop next s) → (whole (form_c false rec_c) 1 s i ≡ true) × (list_at (form_c false rec_c) 1 s i ≡ r ∷ [])
unfolding whole list_at decs
one_here s i next r e = rw e (refl, refl)

-- the bytes of the frame that was read
rec_long : {s : Bytes} {i m : ℕ} {y : Seen} {r : Rec} → SeenIn false s i m y r → length (rec_bytes r) ≡ m
rec_long {r = r} w = ap length (sym (rec_plain r)) ∙ w.1.size

module _ (z : Id) {s : Bytes} {n at i left : ℕ} (x : Scan (form_c false rec_c) (find_f z) s n at at i left i) where
  pub find_go : {m j : ℕ} {y : Seen} → 0 < left → FoundRec false s i m y → j ≡ after_in_value false s i m → (cmp_l z y.id ≡ 1 → ⊥) → Scan (form_c false rec_c) (find_f z) s n at at j (left - 1) j
  unfolding find_f after_in_value
  find_go {m} {j} h r g e = let t = see false x h r g in
      let k : i + (length (rec_bytes t.item) + end_of z (list_at (form_c false rec_c) (left - 1) s j)) ≡ j + end_of z (list_at (form_c false rec_c) (left - 1) s j) = omega (arith, rec_long t.is) in
      on x j h t (rw (← t.is.0.id, ne_eqb _ _ e, k))

  pub find_stop : {m : ℕ} {y : Seen} → 0 < left → FoundRec false s i m y → cmp_l z y.id ≡ 1 → StandsAt s z at (list_at (form_c false rec_c) n s at) i
  unfolding find_f
  find_stop {m} h r e = let t = seen false x h r in
      let f : ◌≡◌ {A = Option Rec × ℕ} (some t.item, i + (length (rec_bytes t.item) + 0)) (find (named? z) (list_at (form_c false rec_c) n s at), at + end_of z (list_at (form_c false rec_c) n s at)) = stop x t (rw (← t.is.0.id, eq-eqb _ _ e)) in
      let o = one_here s i (after_in_value false s i m) t.item t.here in
      record { r = t.item; found = sym (ap (λ p. p.0) f); here = (x.within, o.0, o.1); end = omega (arith, ap (λ p. p.1) f) }

  pub find_end : left ≡ 0 → find (named? z) (list_at (form_c false rec_c) n s at) ≡ none
  unfolding find_f
  find_end e = sym (ap (λ p. p.0) (end x e))

-- the record that stands there is what a reader finds there
pub met : {s : Bytes} {at m : ℕ} {y : Seen} {r : Rec} → Here s at r → FoundRec false s at m y → SeenIn false s at m y r
met {s} {at} {m} {y} {r} h x =
    let t = turn_in false 1 h.0 h.1 (omega arith) x in
    let e : t.item ≡ r = let z : ◌≡◌ {A = List Rec} (t.item ∷ list_at (form_c false rec_c) (1 - 1) s (after_in_value false s at m)) (r ∷ []) = sym t.list ∙ h.2 in cc in
    rw (← e) t.is

-- it is one that a reader may read
pub stands_here : (s : Bytes) (at : ℕ) {r : Rec} → Here s at r → reads? rec_c (view false s at) 0 ≡ true
stands_here s at h = stands_in rec_c false s 1 h.0 h.1 (omega arith)

-- ---- looking up
pub key : {k id : Id} → length id ≡ 32 → k ≡ part 32 (view false id 0) 0 → k ≡ id
unfolding part view
key {k} {id} h e = e ∙ take_all 32 id (omega arith)

pub look_3 : (s id : Bytes) → read_area s ≡ none → look_of s id ≡ off 3
unfolding look_of
look_3 s id e = rw e

module _ (s id : Bytes) {x : Area} (a : AreaIn s x) where
  pub look_5 : (length id ≡ 32 → ⊥) → look_of s id ≡ off 5
  unfolding look_of
  look_5 h = rw (a.is, ne_eqb _ _ h)

  module _ (h : length id ≡ 32) (k : Id) (e : k ≡ part 32 (view false id 0) 0) where
    look_is : look_of s id ≡ look_rec (find (named? k) (list_at (form_c false rec_c) x.open.head.count s x.open.start))
    unfolding look_of
    look_is = rw (a.is, eq-eqb _ _ h, ← (key h e)) (ap (λ l. look_rec (find (named? k) l)) (sym a.read.store.list))

    look_end : {at : ℕ} (f : StandsAt s k x.open.start (list_at (form_c false rec_c) x.open.head.count s x.open.start) at) (q : Queue) → read_area s ≡ some q
        → at + length (rec_bytes f.r) ≡ 4 + length (head_bytes q) + end_of id q.recs
    unfolding after_in_value
    look_end {at} f q c =
        let w = a.read.store in
        let d : a.q ≡ q = some_same (sym a.is ∙ c) in
        let e1 : length (head_bytes a.q) ≡ x.open.head.size = ap length (sym (head_plain newest a.q)) ∙ w.frame.size in
        let e2 : end_of k (list_at (form_c false rec_c) x.open.head.count s x.open.start) ≡ end_of id a.q.recs = rw (w.list, key h e) in
        let e3 : at + length (rec_bytes f.r) ≡ 4 + length (head_bytes a.q) + end_of id a.q.recs = omega (arith, f.end, w.start, e1, e2) in
        rw (← d) e3

    -- what a search gives back is what the look-up does
    pub look_found : (o : std.Option ℕ) {r : Result ℕ Refusal} → r ≡ ok_or o NotFound
        → MatchOption o (find (named? k) (list_at (form_c false rec_c) x.open.head.count s x.open.start) ≡ none) (StandsAt s k x.open.start (list_at (form_c false rec_c) x.open.head.count s x.open.start))
        → MatchResult r (LookedUp s id) (LookRefused s id)
    look_found std.None e f = rw e (look_is ∙ ap look_rec f)
    look_found (std.Some at) e f = rw e (record { r = f.r; is = look_is ∙ ap look_rec f.found; here = f.here; end = look_end f })

-- ---- what a lookup says of the queue
module _ {A : Type 0} (s id : Bytes) (old : A) (g : Queue → Rec → Answer × A) where
  pub look_off : (n : ℕ) → look_of s id ≡ off n → (Refused n, old) ≡ look_up s id old g
  unfolding look_of
  look_off n = go (read_area s) refl
    where
      rec : (q : Queue) (o : Option Rec) → read_area s ≡ some q → id? id ≡ true → find (named? id) q.recs ≡ o → look_rec o ≡ off n → (Refused n, old) ≡ look_up s id old g
      rec q none e t f h = let k : ◌≡◌ {A = ℕ} 13 n = off_same h in rw (e, t, f, ← k)
      rec q (some r) e t f h = hit_off h

      go : (o : Option Queue) → read_area s ≡ o → look_in id o ≡ off n → (Refused n, old) ≡ look_up s id old g
      go none e h = let k : ◌≡◌ {A = ℕ} 3 n = off_same h in rw (e, ← k)
      go (some q) e h = cases (id? id)
          (λ t. rec q (find (named? id) q.recs) e t refl (rw t at h))
          (λ t. let h' : off 5 ≡ off n = rw t at h in let k : ◌≡◌ {A = ℕ} 5 n = off_same h' in rw (e, t, ← k))

  pub look_hit : (r : Rec) → look_of s id ≡ hit r → (q : Queue) × (read_area s ≡ some q) × (g q r ≡ look_up s id old g)
  unfolding look_of
  look_hit r = go (read_area s) refl
    where
      rec : (q : Queue) (o : Option Rec) → read_area s ≡ some q → id? id ≡ true → find (named? id) q.recs ≡ o → look_rec o ≡ hit r → g q r ≡ look_up s id old g
      rec q none e t f h = hit_off (sym h)
      rec q (some x) e t f h = let k : x ≡ r = hit_same h in rw (e, t, f, k)

      go : (o : Option Queue) → read_area s ≡ o → look_in id o ≡ hit r → (q : Queue) × (read_area s ≡ some q) × (g q r ≡ look_up s id old g)
      go none e h = hit_off (sym h)
      go (some q) e h = cases (id? id)
          (λ t. (q, e, rec q (find (named? id) q.recs) e t refl (rw t at h)))
          (λ t. hit_off (sym (rw t at h)))

-- ---- signed bytes
holder_is : {v : Bytes} {y : Seen} {r : Rec} → SeenAs v y r → is_some r.body ≡ y.facts.holder
unfolding facts_of
holder_is x = sym (ap (λ f. f.holder) x.facts)

-- the signed bytes end a frame
held_long : (o : Option Held) → length (content o) ≤ length (flagged held_bytes o)
unfolding held_under
held_long none = omega arith
held_long (some h) =
    let i = id_list_bytes h.ins in
    let o = id_list_bytes h.outs in
    let d = id_list_bytes h.reads in
    let b = codec.be 4 (length h.bytes) ++ h.bytes in
    let a1 = length-append i (o ++ (d ++ b)) in
    let a2 = length-append o (d ++ b) in
    let a3 = length-append d b in
    let a4 = length-append (codec.be 4 (length h.bytes)) h.bytes in
    omega arith

bytes_in : {v : Bytes} {y : Seen} {r : Rec} → SeenAs v y r → (length (content r.body) ≡ y.facts.bytes) × (y.facts.bytes ≤ y.size)
unfolding facts_of
bytes_in {v} {y} {r} x =
    let e : length (content r.body) ≡ y.facts.bytes = sym (ap (λ f. f.bytes) x.facts) in
    let l = ap length x.body ∙ length-append (body_c.enc r.body) (drop y.size v) in
    let b = ap length (body_plain newest r.body) in
    (e, omega (arith, e, l, b, held_long r.body, length-drop y.body v, length-drop y.size v, x.end))

-- what is told of a record, by its body
abbrev signed_in : Bytes → ℕ × ℕ → Queue → Option Held → Answer × (ℕ × ℕ)
signed_in id old q o = maybe (Refused 13, old) (λ h. (Done Nothing, signed_part id q h)) o

no_body : (id : Bytes) (old : ℕ × ℕ) (q : Queue) (o : Option Held) → is_some o ≡ false → (Refused 13, old) ≡ signed_in id old q o
no_body id old q none e = refl
no_body id old q (some h) e = false_true (sym e)

some_body : (id : Bytes) (old : ℕ × ℕ) (q : Queue) (o : Option Held) → is_some o ≡ true
    → (Done Nothing, (4 + length (head_bytes q) + end_of id q.recs - length (content o), length (content o))) ≡ signed_in id old q o
unfolding signed_part
some_body id old q none e = false_true e
some_body id old q (some h) e = refl

pub place_off : (s id : Bytes) (e : Refusal) → LookRefused s id e → SignedRefused s id e
unfolding signed_bytes_of
place_off s id e f old = look_off s id old _ (refusal_number e) f

module _ (s id : Bytes) {at : ℕ} (u : LookedUp s id at) {m : ℕ} {y : Seen} (rd : FoundRec false s at m y) where
  pub place_tomb : y.facts.holder ≡ false → SignedRefused s id NotFound
  unfolding signed_bytes_of
  place_tomb t old =
      let c = look_hit s id old (λ q r. signed_in id old q r.body) u.r u.is in
      no_body id old c.0 u.r.body (holder_is (met u.here rd).0 ∙ t) ∙ c.2

  pub place_within : (at ≤ length s) × (y.facts.bytes ≤ y.size) × (at + y.size ≤ length s) × (y.facts.bytes < 4294967296)
  unfolding view
  place_within = let w = (met u.here rd).0 in (u.here.0, (bytes_in w).1, omega (arith, w.end, u.here.0, length-drop at s), w.small.bytes)

  pub place_held : m ≡ y.size → y.facts.holder ≡ true → SignedAt s id (record { start = at + (y.size - y.facts.bytes); len = y.facts.bytes })
  unfolding signed_bytes_of signed_part
  place_held i t =
      let w = met u.here rd in
      let v = bytes_in w.0 in
      record {
        is = λ old.
            let c = look_hit s id old (λ q r. signed_in id old q r.body) u.r u.is in
            let n = u.end c.0 c.1 in
            let b : at + (y.size - y.facts.bytes) ≡ 4 + length (head_bytes c.0) + end_of id c.0.recs - length (content u.r.body) = omega (arith, n, v.0, v.1, i, rec_long w) in
            pairs b (sym v.0) ∙ some_body id old c.0 u.r.body (holder_is w.0 ∙ t) ∙ c.2;
        within = omega (arith, v.1, place_within.2);
      }
    where
      pairs : {a b c d : ℕ} → a ≡ b → c ≡ d → ◌≡◌ {A = Answer × (ℕ × ℕ)} (Done Nothing, (a, c)) (Done Nothing, (b, d))
      pairs p q = rw (p, q)

pub place_part : {s id : Bytes} {x : Place} → SignedAt s id x → take (x.start + x.len - x.start) (drop x.start s) ≡ part_in s (signed_bytes_of s id (0, 0)).1
place_part {s} {id} {x} p =
    let long : x.start + x.len - x.start ≡ x.len = omega arith in
    ap (λ n. take n (drop x.start s)) long ∙ ap (λ w. part_in s w.1) (p.is (0, 0))

pub no_part : (s id : Bytes) (e : Refusal) → SignedRefused s id e → take 0 s ≡ part_in s (signed_bytes_of s id (0, 0)).1
no_part s id e p = ap (λ w. part_in s w.1) (p (0, 0))

-- ---- an entry

label_most : (o : Option Bytes) → label_len o < 256 → label_c.most o ≤ 257
unfolding label_c opt_c counted_c
label_most none h = omega arith
label_most (some s) h = let e = bytes_most s in omega arith

terms_most : (t : Terms) → label_len t.label < 256 → terms_c.most t ≤ 307
unfolding terms_k map_c pair_c be_c
terms_most t h =
    let a = number_most 8 t.due in
    let b = number_most 4 t.due_height in
    let c = label_most t.label h in
    omega arith

pub record Parts (r : Rec) : Type 0 where
  pub id : length r.id ≡ 32
  pub state : r.state < 256 ^ 1
  pub reason : r.reason < 256 ^ 1
  pub terms : terms_c.ok r.terms
  pub place : place_c.ok r.place

pub rec_parts : (r : Rec) → rec_c.ok r → Parts r
unfolding rec_k map_c pair_c be_c id_c vec_c
rec_parts r h = record { id = h.1.0.1; state = h.1.1.1.0; reason = h.1.1.1.1.0; terms = h.1.1.1.1.1.0; place = h.1.1.1.1.1.1.0 }

-- the ids of a list stand one behind the other
pub ids_here : (v : Bytes) (n at : ℕ) → whole id_c n v at ≡ true → (take (n * 32) (drop at v) ≡ concat (list_at id_c n v at)) × (n * 32 ≤ length (drop at v)) × (length (list_at id_c n v at) ≡ n)
unfolding whole list_at vec_c
ids_here v n at w = go (decs id_c n (drop at v)) refl w
  where
    go : (o : Got (List Id)) → decs id_c n (drop at v) ≡ o → is_got o ≡ true → (take (n * 32) (drop at v) ≡ concat (val_of o)) × (n * 32 ≤ length (drop at v)) × (length (val_of o) ≡ n)
    go fail p w = false_true w
    go (got l r) p w =
        let u = vec_bwd id_c n (drop at v) l r p in
        let z : length (encs id_c l) ≡ n * 32 = (spans_vec spans_id n).size l u.1 in
        let k = ap length u.0 ∙ length-append (encs id_c l) r in
        (ap (take (n * 32)) u.0 ∙ take_at (encs id_c l) r (n * 32) z ∙ ids_plain l, omega arith, u.1.1)

glue : {a a' b b' c c' d d' e e' : Bytes} → a ≡ a' → b ≡ b' → c ≡ c' → d ≡ d' → e ≡ e' → a ++ (b ++ (c ++ (d ++ e))) ≡ a' ++ (b' ++ (c' ++ (d' ++ e')))
glue p q r s t = cc

regroup : (i w a b t p n c d : Bytes) → ((i ++ (w ++ (a ++ b))) ++ (t ++ p)) ++ (n ++ (c ++ d)) ≡ i ++ (w ++ (a ++ (b ++ (t ++ (p ++ ((n ++ c) ++ d))))))
regroup i w a b t p n c d = simp append_assoc

place_one : (o : Option (ℕ × Id)) → 1 ≤ length (place_bytes o)
unfolding place_bytes
place_one none = omega arith
place_one (some p) = omega arith

front_of : Rec → Bytes
front_of r = r.id ++ (codec.be 1 r.caller ++ (codec.be 1 r.state ++ codec.be 1 r.reason))

rest_of : Rec → Bytes
rest_of r = terms_bytes r.terms ++ (place_bytes r.place ++ (codec.be 1 r.mark ++ (codec.be 8 r.finish ++ flagged held_bytes r.body)))

rec_front : (r : Rec) (t : Bytes) → rec_bytes r ++ t ≡ 2 ∷ (front_of r ++ (rest_of r ++ t))
unfolding rec_under front_of rest_of
rec_front r t = simp append_assoc

module _ {s : Bytes} {base m : ℕ} {y : Seen} {r : Rec} (h : base ≤ length s) (x : SeenIn false s base m y r) where
  -- the frame's front, up to the terms
  front_size : length (front_of r) ≡ 35
  unfolding front_of
  front_size = let p = rec_parts r x.1.fine in rw length-append (omega (arith, p.id))

  from_id : drop 1 (view false s base) ≡ front_of r ++ drop terms_at (view false s base)
  from_id =
      let v = view false s base in
      let e : v ≡ 2 ∷ (front_of r ++ (rest_of r ++ drop m v)) = (rec_c.bwd v r (drop m v) x.1.here).0 ∙ ap (λ (b : Bytes). b ++ drop m v) (rec_plain r) ∙ rec_front r (drop m v) in
      let a : drop 1 v ≡ front_of r ++ (rest_of r ++ drop m v) = ap (drop 1) e in
      let b : drop terms_at v ≡ rest_of r ++ drop m v = sym (drop-drop 35 1 v) ∙ ap (drop 35) a ∙ drop_at (front_of r) (rest_of r ++ drop m v) 35 front_size in
      a ∙ ap (λ (b : Bytes). front_of r ++ b) (sym b)

  -- the id stands behind the kind
  pub id_here : (take 32 (drop (base + 1) s) ≡ r.id) × (base + 46 ≤ length s)
  unfolding view front_of
  id_here =
      let w = x.0 in
      let p = rec_parts r x.1.fine in
      (ap (take 32) (sym (drop-drop 1 base s) ∙ from_id ∙ append_assoc r.id _ _) ∙ take_at r.id _ 32 p.id, omega (arith, w.up, w.up_place, w.up_body, w.end, length-drop base s))

  -- the state behind the caller
  pub state_here : take 1 (drop (base + 34) s) ≡ codec.be 1 r.state
  unfolding view front_of
  state_here =
      let p = rec_parts r x.1.fine in
      let e : drop 1 (drop base s) ≡ (r.id ++ codec.be 1 r.caller) ++ (codec.be 1 r.state ++ (codec.be 1 r.reason ++ drop terms_at (drop base s))) = from_id ∙ group r.id (codec.be 1 r.caller) (codec.be 1 r.state) (codec.be 1 r.reason) (drop terms_at (drop base s)) in
      let l : length (r.id ++ codec.be 1 r.caller) ≡ 33 = rw length-append (omega (arith, p.id)) in
      let d : drop (base + 34) s ≡ codec.be 1 r.state ++ (codec.be 1 r.reason ++ drop terms_at (drop base s)) =
      sym (drop-drop 34 base s) ∙ sym (drop-drop 33 1 (drop base s)) ∙ ap (drop 33) e ∙ drop_at (r.id ++ codec.be 1 r.caller) (codec.be 1 r.state ++ (codec.be 1 r.reason ++ drop terms_at (drop base s))) 33 l in
      ap (take 1) d ∙ take_at (codec.be 1 r.state) (codec.be 1 r.reason ++ drop terms_at (drop base s)) 1 refl
    where
      group : (a w b c d : Bytes) → (a ++ (w ++ (b ++ c))) ++ d ≡ (a ++ w) ++ (b ++ (c ++ d))
      group a w b c d = simp append_assoc

  -- the mined place without its flag
  pub place_here : (y.after + 1 ≤ y.mark) × (take (y.mark - y.after - 1) (drop (base + y.after + 1) s) ≡ drop 1 (place_bytes r.place))
  unfolding view
  place_here =
      let w = x.0 in
      let v = drop base s in
      let b = (between v (place_c.enc r.place) y.after y.mark w.place w.up_place (omega (arith, w.up_body, w.end))).1 in
      let P = place_bytes r.place in
      let e : drop y.after v ≡ P ++ drop y.mark v = w.place ∙ ap (λ (l : Bytes). l ++ drop y.mark v) (place_plain r.place) in
      let k : length P ≡ y.mark - y.after = ap length (sym (place_plain r.place)) ∙ b in
      let o = place_one r.place in
      let z : drop 1 (drop y.after v) ≡ drop 1 P ++ drop y.mark v = ap (drop 1) e ∙ drop-append-le 1 P (drop y.mark v) o in
      let d : drop (base + y.after + 1) s ≡ drop 1 (drop y.after v) = sym (drop-drop 1 (base + y.after) s) ∙ ap (drop 1) (sym (drop-drop y.after base s)) in
      (omega arith, ap (take (y.mark - y.after - 1)) (d ∙ z) ∙ take_at (drop 1 P) (drop y.mark v) (y.mark - y.after - 1) (omega (arith, length-drop 1 P)))

  head_of : Bytes
  head_of = front_of r ++ (terms_bytes r.terms ++ place_bytes r.place)

  to_place : drop 1 (view false s base) ≡ head_of ++ drop y.mark (view false s base)
  unfolding head_of
  to_place = from_id ∙ rw (x.0.terms, x.0.place, terms_plain r.terms, place_plain r.place) (simp append_assoc)

  view_is : view false s base ≡ drop base s
  unfolding view
  view_is = refl

  pub entry_in_law : EntryIn s base y
  unfolding facts_of
  entry_in_law =
      let w = x.0 in
      let v = view false s base in
      let l : length v ≡ length s - base = ap length view_is ∙ length-drop base s in
      let p = rec_parts r x.1.fine in
      let a = (between v (terms_c.enc r.terms) terms_at y.after w.terms w.up (omega (arith, w.up_place, w.up_body, w.end))).1 in
      let b = (between v (place_c.enc r.place) y.after y.mark w.place w.up_place (omega (arith, w.up_body, w.end))).1 in
      let c : label_len r.terms.label < 256 = rw (ap (λ f. f.label) w.facts) at w.small.label in
      let d = terms_c.fits r.terms p.terms in
      let e = terms_most r.terms c in
      let f = place_c.fits r.place p.place in
      let g = place_most r.place p.place in
      let i = (ids_here v y.facts.ins y.at w.ins_all).1 in
      let j = length-drop y.at v in
      let k = (ids_here v y.facts.reads y.reads w.reads_all).1 in
      let m = length-drop y.reads v in
      record {
        up = omega (arith, w.up, w.up_place);
        most = omega (arith, w.up, w.up_place);
        within = omega (arith, w.up_body, w.end);
        ins = omega (arith, w.ins_in);
        reads = omega (arith, w.reads_in);
        few = w.small.ins;
        few_reads = w.small.reads;
      }

  pub entry_is : entry_at s base y ≡ entry_bytes r
  unfolding entry_at entry_bytes head_of front_of
  entry_is =
      let w = x.0 in
      let v = view false s base in
      let a = (between v head_of 1 y.mark to_place (omega (arith, w.up, w.up_place)) (omega (arith, w.up_body, w.end))).0 in
      let a' : take (y.mark - 1) (drop (base + 1) s) ≡ head_of = ap (take (y.mark - 1)) (sym (drop-drop 1 base s) ∙ ap (drop 1) (sym view_is)) ∙ a in
      let b = ids_here v y.facts.ins y.at w.ins_all in
      let b' : take (y.facts.ins * 32) (drop (base + y.at) s) ≡ concat (inputs r.body) = ap (take (y.facts.ins * 32)) (sym (drop-drop y.at base s) ∙ ap (drop y.at) (sym view_is)) ∙ b.0 ∙ ap concat w.ins_list in
      let k : length (inputs r.body) ≡ y.facts.ins = ap length (sym w.ins_list) ∙ b.2 in
      let c = ids_here v y.facts.reads y.reads w.reads_all in
      let c' : take (y.facts.reads * 32) (drop (base + y.reads) s) ≡ concat (reads r.body) = ap (take (y.facts.reads * 32)) (sym (drop-drop y.reads base s) ∙ ap (drop y.reads) (sym view_is)) ∙ c.0 ∙ ap concat w.reads_list in
      let m : length (reads r.body) ≡ y.facts.reads = ap length (sym w.reads_list) ∙ c.2 in
      glue a' (be_same 2 y.facts.ins w.small.ins ∙ ap (codec.be 2) (sym k)) b' (be_same 2 y.facts.reads w.small.reads ∙ ap (codec.be 2) (sym m)) c'
      ∙ regroup r.id (codec.be 1 r.caller) (codec.be 1 r.state) (codec.be 1 r.reason) (terms_bytes r.terms) (place_bytes r.place) (codec.be 2 (length (inputs r.body))) (concat (inputs r.body)) (id_list_bytes (reads r.body))

  pub entry_size : length (entry_bytes r) ≡ entry_len_value y
  unfolding entry_at
  entry_size =
      let i = entry_in_law in
      let a : length (take (y.mark - 1) (drop (base + 1) s)) ≡ y.mark - 1 = length-take-le _ _ (omega (arith, length-drop (base + 1) s, i.within, i.up)) in
      let b : length (take (y.facts.ins * 32) (drop (base + y.at) s)) ≡ y.facts.ins * 32 = length-take-le _ _ (omega (arith, length-drop (base + y.at) s, i.ins)) in
      let c : length (take (y.facts.reads * 32) (drop (base + y.reads) s)) ≡ y.facts.reads * 32 = length-take-le _ _ (omega (arith, length-drop (base + y.reads) s, i.reads)) in
      ap length (sym entry_is) ∙ rw (length-append, length-append, length-append, length-append, length_be 2 y.facts.ins, length_be 2 y.facts.reads, a, b, c) (omega arith)

-- ---- an output: too short, or written
pub told_4 : (bs out : Bytes) → length out < length bs → told_out bs out ≡ written (Refused 4) out
told_4 bs out h = rw (lt-ltb (length out) (length bs) h)

pub told_100 : {bs out out' : Bytes} {n r : ℕ} → Put out 0 bs n r out' → n ≤ length out → told_out bs out ≡ written (Done Nothing) out'
told_100 {bs} {out} {out'} {n} {r} p h = rw (le-ltb (length out) (length bs) (omega (arith, p.size)), put_over p h)

pub entry_off : (s id out : Bytes) (e : Refusal) → LookRefused s id e → written (Refused (refusal_number e)) out ≡ entry_of s id out
unfolding entry_of
entry_off s id out e f = look_off s id out _ (refusal_number e) f

module _ (s id out : Bytes) {at : ℕ} (u : LookedUp s id at) {m : ℕ} {y : Seen} (rd : FoundRec false s at m y) where
  pub entry_fits : EntryIn s at y
  entry_fits = entry_in_law u.here.0 (met u.here rd)

  pub entry_4 : length out < entry_len_value y → written (Refused 4) out ≡ entry_of s id out
  unfolding entry_of
  entry_4 h = sym (told_4 (entry_bytes u.r) out (omega (arith, entry_size u.here.0 (met u.here rd)))) ∙ (look_hit s id out (λ q r. told_out (entry_bytes r) out) u.r u.is).2

  pub entry_100 : {out' : Bytes} {r : ℕ} → Put out 0 (entry_at s at y) (entry_len_value y) r out' → entry_len_value y ≤ length out → written (Done Nothing) out' ≡ entry_of s id out
  unfolding entry_of
  entry_100 p h = sym (told_100 (recast p (entry_is u.here.0 (met u.here rd)) refl refl) h) ∙ (look_hit s id out (λ q r. told_out (entry_bytes r) out) u.r u.is).2

-- ---- numbers
pub number_3 : (f : Queue → ℕ) (s : Bytes) (old : ℕ) → read_area s ≡ none → (Refused 3, old) ≡ number_of f s old
unfolding number_of
number_3 f s old e = rw e

pub number_100 : (f : Queue → ℕ) (s : Bytes) (old : ℕ) {x : Area} {v : ℕ} (a : AreaIn s x) → ((q : Queue) → AreaAs s x q → v ≡ f q) → (Done Nothing, v) ≡ number_of f s old
unfolding number_of
number_100 f s old a k = rw (a.is, k a.q a.read)

pub empty_is : (l : List Rec) {n : ℕ} → length l ≡ n → one (eqb n 0) ≡ one (is_empty? l)
empty_is [] e = rw (← e)
empty_is (r ∷ l) {n} e = rw (ne_eqb n 0 (λ z. absurd (let y : ⊥ = omega arith in y)))

pub time_is : (o : Option ℕ) (n : ℕ) → time_due (times o) n ≡ reached? o n
time_is none n = refl
time_is (some d) n = refl

pub height_is : (o : Option ℕ) (n : ℕ) → height_due (heights o) n ≡ reached? o n
height_is none n = refl
height_is (some d) n = refl

pub due_facts : (now height : ℕ) (r : Rec) → due_f now height (facts_of r) ≡ due? now height r
unfolding due_f facts_of due?
due_facts now height r = rw (time_is r.terms.due now, height_is r.terms.due_height height)

pub due_sum : (t : Time) (h : Height) (l : List Rec) → ltb 0 (sum (Due t h) l) ≡ any? (due? t.0 h.0) l
unfolding sum weight
due_sum t h [] = refl
due_sum t h (r ∷ l) = let i = due_sum t h l in cases (due? t.0 h.0 r)
    (λ e. rw (due_facts t.0 h.0 r, e) (lt-ltb 0 (1 + sum (Due t h) l) (omega arith)))
    (λ e. rw (due_facts t.0 h.0 r, e, zero-add) i)

-- ---- the cursor
pub cursor_3 : (s out : Bytes) → read_area s ≡ none → written (Refused 3) out ≡ read_of cursor_bytes s out
unfolding read_of
cursor_3 s out e = rw e

cursor_of : Queue → Bytes
cursor_of q = codec.be 4 q.cursor ++ flagged (λ i. i) q.tip

module _ (s out : Bytes) {x : Area} (a : AreaIn s x) where
  pub cursor_in : (x.open.head.marks ≤ x.open.head.after) × (4 + x.open.head.after ≤ length s)
  unfolding view
  cursor_in = let h = a.read.store.head in (omega (arith, h.marks_at, h.up), omega (arith, h.size_at, h.end, length-drop 4 s, h.up))

  cursor_is : (take (x.open.head.after - x.open.head.marks) (drop (4 + x.open.head.marks) s) ≡ cursor_of a.q) × (length (cursor_of a.q) ≡ x.open.head.after - x.open.head.marks)
  unfolding view be_c cursor_of
  cursor_is =
      let h = a.read.store.head in
      let p : codec.be 4 a.q.cursor ++ (opt_c id_c).enc a.q.tip ≡ cursor_of a.q = rw (opt_plain id_c (λ i. i) id_plain a.q.tip) in
      let b = between (drop 4 s) (codec.be 4 a.q.cursor ++ (opt_c id_c).enc a.q.tip) x.open.head.marks x.open.head.after h.marks cursor_in.0 (omega (arith, cursor_in.1, length-drop 4 s)) in
      (ap (take (x.open.head.after - x.open.head.marks)) (sym (drop-drop x.open.head.marks 4 s)) ∙ b.0 ∙ p, ap length (sym p) ∙ b.1)

  pub cursor_4 : length out < x.open.head.after - x.open.head.marks → written (Refused 4) out ≡ read_of cursor_bytes s out
  unfolding read_of cursor_of
  cursor_4 h = sym (rw a.is (told_4 (cursor_of a.q) out (omega (arith, cursor_is.1))))

  pub cursor_100 : {out' : Bytes} {n r : ℕ} → n ≡ x.open.head.after - x.open.head.marks → n ≤ length out → Put out 0 (take n (drop (4 + x.open.head.marks) s)) n r out' → written (Done Nothing) out' ≡ read_of cursor_bytes s out
  unfolding read_of cursor_of
  cursor_100 {out'} {n} {r} e h p =
      let k : take n (drop (4 + x.open.head.marks) s) ≡ cursor_of a.q = ap (λ m. take m (drop (4 + x.open.head.marks) s)) e ∙ cursor_is.0 in
      sym (rw a.is (told_100 (recast p k refl refl) h))

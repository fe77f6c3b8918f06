-- What a reconciliation makes of one record. Assumes nothing.
use Rattle.std.specs.Prelude.{◌≡◌, refl, Bool, true, false, cond, ◌&&◌, ◌||◌, List, [], ◌∷◌, ◌++◌, ℕ, zero, suc, ◌+◌, ◌-◌, ◌*◌, ◌/◌, ◌%◌, ◌≤◌, ◌<◌, eqb, length, take, drop, get_or, set}
use Rattle.std.proofs.Common.{ap, sym, ◌∙◌, append_assoc, append-nil, arith, le_of_suc-le-suc, add-one, length-append, length-set, take-take, take-suc-set, drop-drop, eq-eqb, ne_eqb, eqb-true}
use Rattle.std.specs.Prelude as code
use Rattle.std.proofs.Math.Option.{Option, none, some}
use Rattle.std.proofs.Math.Arith.{digits_div, digits_mod}
use Rattle.std.proofs.Math.Seq.{drop-append_seam, take-append_seam}
use Rattle.std.proofs.lemmas.Bool.{eqb-false}
use Rattle.queue.specs.Basics.{join_same, or_same, and_same, among_append}
use Rattle.queue.specs.Codec as codec
use Rattle.queue.specs.Codec.{All, cases, be_length, opt_c, pair_c, vec_c}
use Rattle.queue.specs.layout.FrameCodec.{rec_c, id_c, place_c}
use Rattle.queue.specs.bytes.Parts.{part}
use Rattle.queue.specs.bytes.ViewAs.{view}
use Rattle.queue.specs.bytes.ReaderAs.{Found, whole, list_at}
use Rattle.queue.specs.bytes.ReaderLaws.{be_at, false_true, none_left}
use Rattle.queue.specs.layout.FormsCodec.{form_c, after_in_value}
use Rattle.queue.specs.layout.RecordsAs.{records, recs_at}
use Rattle.queue.specs.layout.FrameAs.{facts_of, mined_at, SeenAs}
use Rattle.queue.specs.theorems.Plain.{place_plain}
use Rattle.queue.specs.theorems.SoundParts.{fields_of}
use Rattle.queue.specs.change.AdmitAs.{height_of}
use Rattle.queue.specs.change.OwnAs.{wanted_at}
use Rattle.queue.specs.declared.layout.frame.Height.{Height}
use Rattle.queue.specs.change.TouchAs.{entry_in, applied_in, entry_ids, EntriesRise, EntryAt, NoEntry, SeenOf, SeenHere, ConfirmedIs, own_ids, judge_f, as_touched, verdict_of_value, InEntry, TouchIs, VerdictOn, Judged, changed?, changes?}
use Rattle.queue.specs.paper.Records.{Bytes, Id, Rec, queued, conflicted}
use Rattle.queue.specs.paper.Lists.{is_some, any?, all?, find}
use Rattle.queue.specs.paper.Ids.{cmp_l, same?, rise?}
use Rattle.queue.specs.paper.Sound.{pending?, among?, wanted, outputs}
use Rattle.queue.specs.paper.Area.{be_val, place_bytes}
use Rattle.queue.specs.paper.Changing.{Applied, confirmed?, confirm, judge, queued_outputs, touch_found}
use Rattle.queue.specs.paper.Calls.{applied_of}
use Rattle.queue.specs.declared.layout.frame.Seen.{Seen}
use Rattle.queue.specs.declared.layout.frame.Facts.{Facts}
use Rattle.queue.specs.declared.layout.records.Records.{Records}
use Rattle.queue.specs.change.TouchAs.{VerdictNumbers}
use Rattle.queue.proofs.layout.TurnLaws.{Scan, start, here, on, stop, end, FoundRec, seen}
use Rattle.queue.specs.bytes.OrderLaws.{cmp_flip, same_sym, below_not_same, or_false}
use Rattle.queue.proofs.check.ScanLaws.{nothing_f}
use Rattle.queue.proofs.bytes.PutByteLaws.{between, be_val_law, drop_take}
use Rattle.queue.proofs.layout.RisingLaws.{Finding, find_end, at_low, at_high, rest_rises, rising_at}

-- ---- numbers and parts of an applied entry

module _ (t : Bytes) (p : ℕ) where
  pub entry_height : p + 68 ≤ length t → (entry_in t p).height ≡ be_at 4 (view false t 0) (p + 32)
  unfolding view
  entry_height h =
      ap (λ (l : Bytes). be_val (take 4 l)) (drop_take 32 36 (drop p t)) ∙ ap be_val (take-take 4 36 (drop 32 (drop p t)) (omega arith)) ∙ ap (λ (l : Bytes). be_val (take 4 l)) (drop-drop 32 p t)
      ∙ sym (be_val_law 4 t (p + 32) (omega arith))

  entry_block : (entry_in t p).block ≡ part 32 (view false t 0) (p + 36)
  unfolding part view
  entry_block = drop_take 36 32 (drop p t) ∙ ap (take 32) (drop-drop 36 p t)

-- ---- the entry of an id: by place, and looked for among the ids
pub entries_many : (k : ℕ) (t : Bytes) → length (entry_ids t k) ≡ k
entries_many zero t = refl
entries_many (suc k) t = ap suc (entries_many k (drop 68 t))

behind : (m : ℕ) (t : Bytes) → drop (68 * m) (drop 68 t) ≡ drop (68 * suc m) t
behind m t = let e : 68 + 68 * m ≡ 68 * suc m = omega arith in drop-drop (68 * m) 68 t ∙ ap (λ n. drop n t) e

entry_at : (k m : ℕ) (t : Bytes) → m < k → get_or (entry_ids t k) m [] ≡ part 32 (view false t 0) (68 * m)
unfolding part view
entry_at zero m t h = absurd (let y : ⊥ = omega arith in y)
entry_at (suc k) zero t h = take-take 32 68 t (omega arith)
entry_at (suc k) (suc m) t h = entry_at k m (drop 68 t) (le_of_suc-le-suc h) ∙ ap (take 32) (behind m t)

no_entry : (z : Id) (k : ℕ) (t : Bytes) → false ≡ among? z (entry_ids t k) → find (λ a. same? z a.id) (applied_in t k) ≡ none
no_entry z zero t e = refl
no_entry z (suc k) t e =
    let u = or_false (same? z (take 32 (take 68 t))) (among? z (entry_ids (drop 68 t) k)) (sym e) in
    rw u.0 (no_entry z k (drop 68 t) (sym u.1))

this_entry : (z : Id) (k m : ℕ) (t : Bytes) → rise? (entry_ids t k) ≡ true → m < k → cmp_l z (get_or (entry_ids t k) m []) ≡ 1 → find (λ a. same? z a.id) (applied_in t k) ≡ some (entry_in t (68 * m))
this_entry z zero m t r h e = absurd (let y : ⊥ = omega arith in y)
this_entry z (suc k) zero t r h e = rw (eq-eqb (cmp_l z (take 32 (take 68 t))) 1 e)
this_entry z (suc k) (suc m) t r h e =
    let i = take 32 (take 68 t) in
    let l = entry_ids (drop 68 t) k in
    let n : m < length l = omega (arith, entries_many k (drop 68 t)) in
    let b = rising_at (i ∷ l) 0 (suc m) r (omega arith) (omega arith) in
    let q : z ≡ get_or l m [] = (cmp_flip z (get_or l m [])).1 e in
    let o : same? z i ≡ false = same_sym z i ∙ below_not_same i z (rw q b) in
    rw o (this_entry z k m (drop 68 t) (rest_rises i l r) (le_of_suc-le-suc h) e ∙ ap (λ s. some (applied_of (take 68 s))) (behind m t))

pub entry_end : (t : Bytes) (k : ℕ) {z : Id} {lo hi : ℕ} → Finding z (entry_ids t k) lo hi → hi ≤ lo → NoEntry t k z
entry_end t k {z} g h = record { is = no_entry z k t (find_end g h) }

module _ (t : Bytes) (k : ℕ) (w : EntriesRise t k) {z : Id} {lo hi : ℕ} (g : Finding z (entry_ids t k) lo hi) (m : ℕ) (h : m < hi) where
  pub entry_room : 68 * m + 68 ≤ length t
  entry_room = omega (arith, g.within, entries_many k t, w.all)

  module _ {y : Id} (q : y ≡ part 32 (view false t 0) (68 * m)) where
    few : m < k
    few = omega (arith, g.within, entries_many k t)

    it : y ≡ get_or (entry_ids t k) m []
    it = q ∙ sym (entry_at k m t few)

    pub entry_here : cmp_l z y ≡ 1 → EntryAt t k z m
    entry_here e = record { within = entry_room; is = this_entry z k m t w.rise few (ap (cmp_l z) (sym it) ∙ e) }

    pub entry_low : cmp_l z y ≡ 0 → Finding z (entry_ids t k) lo m
    entry_low = at_low g w.rise m it h

    pub entry_high : (cmp_l z y ≡ 0 → ⊥) → (cmp_l z y ≡ 1 → ⊥) → Finding z (entry_ids t k) (m + 1) hi
    entry_high = at_high g w.rise m it h

-- ---- is it confirmed there already
module _ (s : Bytes) (base : ℕ) (x : Seen) (t : Bytes) (p : ℕ) where
  state_of : (r : Rec) → SeenOf s base x r → x.facts.state ≡ r.state
  unfolding facts_of
  state_of r w = ap (λ v. v.state) w.0.facts

  placed_of : (r : Rec) → SeenOf s base x r → mined_at r.place ≡ x.facts.mined
  unfolding facts_of
  placed_of r w = sym (ap (λ v. v.mined) w.0.facts)

  pub unmined : (x.facts.state ≡ 2 → ⊥) → ConfirmedIs s base x t p false
  unmined n r w = rw (ne_eqb r.state 2 (λ e. n (state_of r w ∙ e)))

  pub unplaced : x.facts.state ≡ 2 → x.facts.mined ≡ code.None → ConfirmedIs s base x t p false
  unplaced e n r w = rw (eq-eqb r.state 2 (sym (state_of r w) ∙ e)) (go r.place (placed_of r w ∙ n))
    where
      go : (o : Option (ℕ × Id)) → mined_at o ≡ code.None → false ≡ confirmed? (entry_in t p) o
      go none e = refl
      go (some y) e = false_true (sym (ap code.is_some e))

  place_some : (r : Rec) (h : ℕ) (b : Id) → SeenOf s base x r → r.place ≡ some (h, b) → length b ≡ 32 → (part 32 (view false s base) (x.after + 5) ≡ b) × (x.after + 37 ≤ length (view false s base))
  unfolding part place_bytes
  place_some r h b w e l =
      let v = view false s base in
      let d : drop x.after v ≡ (1 ∷ (codec.be 4 h ++ b)) ++ drop x.mark v = w.0.place ∙ ap (λ (y : Bytes). y ++ drop x.mark v) (place_plain r.place ∙ ap place_bytes e) in
      let n = (between v (1 ∷ (codec.be 4 h ++ b)) x.after x.mark d w.0.up_place (omega (arith, w.0.up_body, w.0.end))).1 in
      let k : length (codec.be 4 h ++ b) ≡ 36 = length-append (codec.be 4 h) b ∙ omega (arith, be_length 4 h) in
      let f : drop (x.after + 5) v ≡ b ++ drop x.mark v = sym (drop-drop 5 x.after v) ∙ ap (drop 5) (d ∙ ap (λ (y : Bytes). 1 ∷ y) (append_assoc (codec.be 4 h) b (drop x.mark v))) ∙ behind (codec.be 4 h) (b ++ drop x.mark v) (be_length 4 h) in
      (ap (take 32) f ∙ front b (drop x.mark v) l, omega (arith, w.0.up_body, w.0.end))
    where
      behind : (a c : Bytes) → length a ≡ 4 → drop 5 (1 ∷ (a ++ c)) ≡ c
      behind a c e = ap (λ (k : ℕ). drop k (a ++ c)) (sym e) ∙ drop-append_seam a c

      front : (a c : Bytes) → length a ≡ 32 → take 32 (a ++ c) ≡ a
      front a c e = ap (λ (k : ℕ). take k (a ++ c)) (sym e) ∙ take-append_seam a c

  some_place : (r : Rec) → rec_c.ok r → {m : Height} → mined_at r.place ≡ code.Some m → (b : Id) × (r.place ≡ some (m.0, b)) × (length b ≡ 32)
  unfolding place_c opt_c pair_c id_c vec_c
  some_place r o {m} e = go r.place refl e (fields_of r o).place
    where
      go : (y : Option (ℕ × Id)) → r.place ≡ y → mined_at y ≡ code.Some m → place_c.ok y → (b : Id) × (r.place ≡ some (m.0, b)) × (length b ≡ 32)
      go none f e k = false_true (ap code.is_some e)
      go (some z) f e k = let h : z.0 ≡ m.0 = ap (λ o. (height_of o).0) e in (z.1, f ∙ ap (λ n. some (n, z.1)) h, k.1.1)

  pub place_room : {m : Height} → SeenHere s base x → x.facts.mined ≡ code.Some m → x.after + 37 ≤ length (view false s base)
  place_room w n = let q = some_place w.0 w.1.1 (placed_of w.0 w.1 ∙ n) in (place_some w.0 _ q.0 w.1 q.1 q.2).1

  pub placed_is : {n : ℕ} {m' : Height} {a b : Id} {u : Bool} → x.facts.state ≡ 2 → x.facts.mined ≡ code.Some m' → p + 68 ≤ length t → n ≡ be_at 4 (view false t 0) (p + 32) → a ≡ part 32 (view false s base) (x.after + 5) → b ≡ part 32 (view false t 0) (p + 36)
      → u ≡ (eqb m'.0 n && eqb (cmp_l a b) 1) → ConfirmedIs s base x t p u
  placed_is {n} {m'} {a} {b} {u} e m h i j k f r w =
      let q = some_place r w.1 (placed_of r w ∙ m) in
      let z = (place_some r m'.0 q.0 w q.1 q.2).0 in
      let y : u ≡ confirmed? (entry_in t p) (some (m'.0, q.0)) = f ∙ and_same (two' refl (i ∙ sym (entry_height t p h))) (two'' (j ∙ z) (k ∙ sym (entry_block t p))) in
      y ∙ ap (confirmed? (entry_in t p)) (sym q.1) ∙ ap (λ (v : Bool). v && confirmed? (entry_in t p) r.place) (sym (eq-eqb r.state 2 (sym (state_of r w) ∙ e)))
    where
      two' : {a a' b b' : ℕ} → a ≡ a' → b ≡ b' → eqb a b ≡ eqb a' b'
      two' e f = cc

      two'' : {a a' b b' : Id} → a ≡ a' → b ≡ b' → eqb (cmp_l a b) 1 ≡ eqb (cmp_l a' b') 1
      two'' e f = cc

-- ---- own ids

unfoldable pub out_f : Id → Unit {0} → List Rec → Bool
out_f i u l = among? i (queued_outputs l)

pub out_turn : (i : Id) (r : Rec) (l : List Rec) → out_f i tt (r ∷ l) ≡ ((eqb r.state 0 && among? i (outputs r.body)) || out_f i tt l)
unfolding out_f
out_turn i r l = among_append i (cond (eqb r.state 0) (outputs r.body) []) (queued_outputs l) ∙ cases (eqb r.state 0) (λ t. rw t) (λ t. rw t)

module _ (z : Id) {s : Bytes} {n at i left : ℕ} (x : Scan (form_c false rec_c) (out_f z) s n at tt i left tt) (h : 0 < left) {m : ℕ} {b : Bool} {y : Seen} (r : FoundRec false s i m y) (e : b ≡ (eqb y.facts.state 0 && among? z (list_at id_c y.facts.outs (view false s i) y.outs))) where
  hit_is : (eqb (seen false x h r).item.state 0 && among? z (outputs (seen false x h r).item.body)) ≡ b
  unfolding facts_of
  hit_is = let w = (seen false x h r).is.0 in sym (e ∙ and_same (ap (λ v. eqb v.state 0) w.facts) (ap (among? z) w.outs_list))

  pub out_go : {j : ℕ} → j ≡ after_in_value false s i m → b ≡ false → Scan (form_c false rec_c) (out_f z) s n at tt j (left - 1) tt
  out_go g f = rw g (on x tt h (seen false x h r) (out_turn z (seen false x h r).item (list_at (form_c false rec_c) (left - 1) s (after_in_value false s i m)) ∙ rw (hit_is ∙ f)))

  pub out_stop : b ≡ true → true ≡ among? z (queued_outputs (list_at (form_c false rec_c) n s at))
  unfolding out_f
  out_stop f = stop x (seen false x h r) (out_turn z (seen false x h r).item (list_at (form_c false rec_c) (left - 1) s (after_in_value false s i m)) ∙ rw (hit_is ∙ f))

pub out_end : (z : Id) {s : Bytes} {n at i left : ℕ} → Scan (form_c false rec_c) (out_f z) s n at tt i left tt → left ≡ 0 → false ≡ among? z (queued_outputs (list_at (form_c false rec_c) n s at))
unfolding out_f
out_end z x e = end x e

pub own_yes : (i : Id) (ids : List Id) (l : List Rec) {b : Bool} → b ≡ among? i ids → b ≡ true → true ≡ among? i (own_ids ids l)
unfolding own_ids
own_yes i ids l e f = sym (among_append i ids (queued_outputs l) ∙ rw (sym e ∙ f))

pub own_no : (i : Id) (ids : List Id) (l : List Rec) {b c : Bool} → b ≡ among? i ids → b ≡ false → c ≡ among? i (queued_outputs l) → c ≡ among? i (own_ids ids l)
unfolding own_ids
own_no i ids l e f g = g ∙ sym (among_append i ids (queued_outputs l) ∙ rw (sym e ∙ f))

-- ---- all inputs
unfoldable pub fine_f : List Id → Unit {0} → List Id → Bool
fine_f own u l = all? (λ i. among? i own) l

module _ (own : List Id) {v : Bytes} {n at i left : ℕ} (x : Scan id_c (fine_f own) v n at tt i left tt) where
  pub fine_go : {next : ℕ} {b : Bool} {y : Id} → 0 < left → Found id_c v i next (λ w. w ≡ y) → b ≡ among? y own → b ≡ true → Scan id_c (fine_f own) v n at tt next (left - 1) tt
  unfolding fine_f
  fine_go h r e f = let t = here x h r in on x tt h t (rw (t.is, ← e, f))

  pub fine_stop : {next : ℕ} {b : Bool} {y : Id} → 0 < left → Found id_c v i next (λ w. w ≡ y) → b ≡ among? y own → b ≡ false → false ≡ all? (λ i. among? i own) (list_at id_c n v at)
  unfolding fine_f
  fine_stop h r e f = let t = here x h r in stop x t (rw (t.is, ← e, f))

  pub fine_end : left ≡ 0 → true ≡ all? (λ i. among? i own) (list_at id_c n v at)
  unfolding fine_f
  fine_end e = end x e

-- ---- what a record wants: its inputs and its read ids
pub wanted_is : {v : Bytes} {x : Seen} {r : Rec} → SeenAs v x r → wanted_at v x ≡ wanted r.body
wanted_is w = join_same w.ins_list w.reads_list

all_both : (p : Id → Bool) (a b : List Id) → all? p (a ++ b) ≡ (all? p a && all? p b)
all_both p [] b = refl
all_both p (i ∷ a) b = cases (p i) (λ t. rw t (all_both p a b)) (λ t. rw t)

module _ (own : List Id) (v : Bytes) (x : Seen) {r : Bool} (e : r ≡ all? (λ i. among? i own) (list_at id_c x.facts.ins v x.at)) where
  wanted_both : all? (λ i. among? i own) (wanted_at v x) ≡ (r && all? (λ i. among? i own) (list_at id_c x.facts.reads v x.reads))
  wanted_both = all_both (λ i. among? i own) (list_at id_c x.facts.ins v x.at) (list_at id_c x.facts.reads v x.reads) ∙ rw (← e)

  pub fine_not : r ≡ false → false ≡ all? (λ i. among? i own) (wanted_at v x)
  fine_not f = sym (wanted_both ∙ rw f)

  pub fine_both : {q : Bool} → r ≡ true → q ≡ all? (λ i. among? i own) (list_at id_c x.facts.reads v x.reads) → q ≡ all? (λ i. among? i own) (wanted_at v x)
  fine_both f g = g ∙ sym (wanted_both ∙ rw f)

-- ---- the verdict
judge_is : (t : Bytes) (fine : Bool) (r : Rec) → cond fine (judge queued 0 r) (judge conflicted 5 r) ≡ as_touched t (record { what = judge_f fine (facts_of r); at = 0 }) r
unfolding judge_f as_touched facts_of
judge_is t true r = cases (eqb r.state 0 && eqb r.reason 0) (λ h. rw h) (λ h. rw h)
judge_is t false r = cases (eqb r.state 3 && eqb r.reason 5) (λ h. rw h) (λ h. rw h)

module _ {fine b : Bool} (f : Facts) where
  pub judge_0 : fine ≡ true → b ≡ (eqb f.state 0 && eqb f.reason 0) → b ≡ true → 0 ≡ judge_f fine f
  unfolding judge_f
  judge_0 t e h = rw (t, sym e ∙ h)

  pub judge_2 : fine ≡ true → b ≡ (eqb f.state 0 && eqb f.reason 0) → b ≡ false → 2 ≡ judge_f fine f
  unfolding judge_f
  judge_2 t e h = rw (t, sym e ∙ h)

  pub judge_0' : fine ≡ false → b ≡ (eqb f.state 3 && eqb f.reason 5) → b ≡ true → 0 ≡ judge_f fine f
  unfolding judge_f
  judge_0' t e h = rw (t, sym e ∙ h)

  pub judge_3 : fine ≡ false → b ≡ (eqb f.state 3 && eqb f.reason 5) → b ≡ false → 3 ≡ judge_f fine f
  unfolding judge_f
  judge_3 t e h = rw (t, sym e ∙ h)

judge_not : (fine : Bool) (f : Facts) → judge_f fine f % 4 ≡ 1 → ⊥
unfolding judge_f
judge_not true f e = cases (eqb f.state 0 && eqb f.reason 0) (λ h. let z : ◌≡◌ {A = ℕ} 0 1 = rw h at e in omega arith) (λ h. let z : ◌≡◌ {A = ℕ} 2 1 = rw h at e in omega arith)
judge_not false f e = cases (eqb f.state 3 && eqb f.reason 5) (λ h. let z : ◌≡◌ {A = ℕ} 0 1 = rw h at e in omega arith) (λ h. let z : ◌≡◌ {A = ℕ} 3 1 = rw h at e in omega arith)

-- verdicts in one number
verdict_0 : verdict_of_value 0 ≡ record { what = 0; at = 0 }
unfolding verdict_of_value
verdict_0 = refl

verdict_1 : (m : ℕ) → verdict_of_value (m * 4 + 1) ≡ record { what = 1; at = 68 * m }
unfolding verdict_of_value
verdict_1 m = rw (digits_mod m {m = 4} {r = 1} (omega arith), digits_div m {m = 4} {r = 1} (omega arith))

verdict_judged : (fine : Bool) (f : Facts) → verdict_of_value (judge_f fine f) ≡ record { what = judge_f fine f; at = 0 }
unfolding verdict_of_value judge_f
verdict_judged true f = cases (eqb f.state 0 && eqb f.reason 0) (λ h. rw h) (λ h. rw h)
verdict_judged false f = cases (eqb f.state 3 && eqb f.reason 5) (λ h. rw h) (λ h. rw h)

pub one_is : (c : ℕ) {what : ℕ} → what ≡ c % 4 → what ≡ 1 → record { what = what; at = 68 * (c / 4) } ≡ verdict_of_value c
unfolding verdict_of_value
one_is c e h = let a : c % 4 ≡ 1 = sym e ∙ h in rw (e, a)

pub other_is : (c : ℕ) {what : ℕ} → what ≡ c % 4 → (what ≡ 1 → ⊥) → record { what = what; at = 0 } ≡ verdict_of_value c
unfolding verdict_of_value
other_is c e h = rw (e, ne_eqb (c % 4) 1 (λ z. h (e ∙ z)))

module _ (s : Bytes) (recs : Records) (base : ℕ) (x : Seen) (t : Bytes) (k : ℕ) (caught : Bool) (ids : List Id) where
  abbrev own : List Id
  own = own_ids ids (recs_at (form_c false rec_c) s recs)

  by_id : (r : Rec) → SeenOf s base x r → find (λ a. same? r.id a.id) (applied_in t k) ≡ find (λ a. same? x.id a.id) (applied_in t k)
  by_id r w = ap (λ i. find (λ a. same? i a.id) (applied_in t k)) (sym w.0.id)

  module _ {at : ℕ} (e : EntryAt t k x.id at) {b : Bool} (c : ConfirmedIs s base x t (68 * at) b) where
    found_is : (r : Rec) → SeenOf s base x r → touch_found caught own r (find (λ a. same? r.id a.id) (applied_in t k)) ≡ cond b none (some (confirm (entry_in t (68 * at)) r))
    found_is r w = ap (touch_found caught own r) (by_id r w ∙ e.is) ∙ ap (λ v. cond v none (some (confirm (entry_in t (68 * at)) r))) (sym (c r w))

    pub verdict_same : b ≡ true → TouchIs s recs base x t k caught ids 0
    unfolding as_touched
    verdict_same y = record { is = λ r w. found_is r w ∙ rw (y, verdict_0); within = λ z. absurd (let u : ⊥ = omega arith in u) }

    pub verdict_confirm : b ≡ false → TouchIs s recs base x t k caught ids (at * 4 + 1)
    unfolding as_touched
    verdict_confirm y = record { is = λ r w. found_is r w ∙ rw (y, verdict_1 at); within = λ z. rw (digits_div at {m = 4} {r = 1} (omega arith)) e.within }

  module _ (e : NoEntry t k x.id) {u : Bool} (c : u ≡ (caught && pending? x.facts.state)) where
    missing_is : (r : Rec) → SeenOf s base x r → touch_found caught own r (find (λ a. same? r.id a.id) (applied_in t k)) ≡ cond u (cond (all? (λ i. among? i own) (wanted r.body)) (judge queued 0 r) (judge conflicted 5 r)) none
    unfolding facts_of
    missing_is r w =
        ap (touch_found caught own r) (by_id r w ∙ e.is)
        ∙ ap (λ v. cond v (cond (all? (λ i. among? i own) (wanted r.body)) (judge queued 0 r) (judge conflicted 5 r)) none) (sym (c ∙ ap (λ v. caught && pending? v.state) w.0.facts))

    pub verdict_none : u ≡ false → TouchIs s recs base x t k caught ids 0
    unfolding as_touched
    verdict_none y = record { is = λ r w. missing_is r w ∙ rw (y, verdict_0); within = λ z. absurd (let v : ⊥ = omega arith in v) }

    pub verdict_judge : {a : Bool} {j : ℕ} → u ≡ true → a ≡ all? (λ i. among? i (own_ids ids (recs_at (form_c false rec_c) s recs))) (wanted_at (view false s base) x) → j ≡ judge_f a x.facts → TouchIs s recs base x t k caught ids j
    verdict_judge {a} {j} y h i = record {
      is = λ r w.
          let z : all? (λ i. among? i own) (wanted r.body) ≡ a = sym (h ∙ ap (all? (λ i. among? i own)) (wanted_is w.0)) in
          missing_is r w ∙ rw y (ap (λ v. cond v (judge queued 0 r) (judge conflicted 5 r)) z ∙ judge_is t a r ∙ ap (λ v. as_touched t v r) (sym (verdict_judged a (facts_of r)) ∙ ap (λ v. verdict_of_value (judge_f a v)) (sym w.0.facts) ∙ ap verdict_of_value (sym i)));
      within = λ z. absurd (judge_not a x.facts (ap (λ v. v % 4) (sym i) ∙ z));
    }

-- ---- does any change
changed : (t : Bytes) (v : VerdictNumbers) (r : Rec) → (v.what ≡ 0 → ⊥) → is_some (as_touched t v r) ≡ true
unfolding as_touched
changed t v r n = rw (ne_eqb v.what 0 n) (cases (eqb v.what 1) (λ e. rw e) (λ e. rw e (cases (eqb v.what 2) (λ f. rw f) (λ f. rw f))))

unchanged : (t : Bytes) (v : VerdictNumbers) (r : Rec) → v.what ≡ 0 → is_some (as_touched t v r) ≡ false
unfolding as_touched
unchanged t v r e = rw (eq-eqb v.what 0 e)

module _ (t : Bytes) (caught : Bool) (own : List Id) (es : List Applied) where
  on_change : {r : Rec} {c : ℕ} → VerdictOn t caught own es r c → changed? c ≡ changes? caught own es r
  unfolding verdict_of_value
  on_change {r} {c} o = cases (eqb (c % 4) 0)
      (λ h. rw h (sym (ap is_some o.is ∙ unchanged t (verdict_of_value c) r (eqb-true (c % 4) 0 h))))
      (λ h. rw h (sym (ap is_some o.is ∙ changed t (verdict_of_value c) r (eqb-false (c % 4) 0 h))))

  pub judged_any : (l : List Rec) (v : List ℕ) → Judged t caught own es l v → any? changed? v ≡ any? (changes? caught own es) l
  judged_any [] [] j = refl
  judged_any [] (c ∷ v) j = absurd j
  judged_any (r ∷ l) [] j = absurd j
  judged_any (r ∷ l) (c ∷ v) j = or_same (on_change j.0) (judged_any l v j.1)

  pub judged_long : (l : List Rec) (v : List ℕ) → Judged t caught own es l v → length v ≡ length l
  judged_long [] [] j = refl
  judged_long [] (c ∷ v) j = absurd j
  judged_long (r ∷ l) [] j = absurd j
  judged_long (r ∷ l) (c ∷ v) j = ap suc (judged_long l v j.1)

  pub judged_within : (l : List Rec) (v : List ℕ) → Judged t caught own es l v → All (InEntry t) v
  judged_within [] [] j = tt
  judged_within [] (c ∷ v) j = absurd j
  judged_within (r ∷ l) [] j = absurd j
  judged_within (r ∷ l) (c ∷ v) j = (j.0.within, judged_within l v j.1)

-- ---- the verdicts, one after the other
pub record Judging (t : Bytes) (caught : Bool) (own : List Id) (es : List Applied) (s : Bytes) (n at room i left j : ℕ) (vs : List ℕ) : Type 0 where
  pub scan : Scan (form_c false rec_c) nothing_f s n at tt i left tt
  pub count : j + left ≡ n
  pub long : length vs ≡ room
  pub rest : (z : List ℕ) → Judged t caught own es (list_at (form_c false rec_c) left s i) z → Judged t caught own es (list_at (form_c false rec_c) n s at) (take j vs ++ z)

pub judging : (t : Bytes) (caught : Bool) (own : List Id) (es : List Applied) (s : Bytes) (n at : ℕ) (vs : List ℕ) → at ≤ length s → whole (form_c false rec_c) n s at ≡ true → Judging t caught own es s n at (length vs) at n 0 vs
judging t caught own es s n at vs h w = record { scan = start (form_c false rec_c) nothing_f s n at tt h w; count = omega arith; long = refl; rest = λ z j. j }

module _ {t : Bytes} (k : ℕ) {caught : Bool} (ids : List Id) {s : Bytes} {n at room i left j : ℕ} {vs : List ℕ} (x : Judging t caught (own_ids ids (list_at (form_c false rec_c) n s at)) (applied_in t k) s n at room i left j vs) where
  module _ (h : 0 < left) {m : ℕ} {y : Seen} (r : FoundRec false s i m y) where
    pub judge_seen : SeenOf s i y (seen false x.scan h r).item
    judge_seen = let u = seen false x.scan h r in (u.is.0, u.is.1.fine)

    pub judge_go : {c o : ℕ} → n ≤ room → TouchIs s (records at n) i y t k caught ids c → o ≡ after_in_value false s i m → Judging t caught (own_ids ids (list_at (form_c false rec_c) n s at)) (applied_in t k) s n at room o (left - 1) (j + 1) (set vs j c)
    unfolding nothing_f
    judge_go {c} {o} f T g =
        let u = seen false x.scan h r in
        let e : take (j + 1) (set vs j c) ≡ take j vs ++ (c ∷ []) = rw add-one (take-suc-set vs j c (omega (arith, x.count, x.long))) in
        record {
          scan = rw g (on x.scan tt h u refl);
          count = omega (arith, x.count);
          long = length-set vs j c ∙ x.long;
          rest = λ z J.
              let q : Judged t caught (own_ids ids (list_at (form_c false rec_c) n s at)) (applied_in t k) (list_at (form_c false rec_c) left s i) (c ∷ z) = rw u.list (record { is = T.is u.item judge_seen; within = T.within }, rw g at J) in
              rw (e, append_assoc (take j vs) (c ∷ []) z) (x.rest (c ∷ z) q);
        }

  pub judge_end : left ≡ 0 → Judged t caught (own_ids ids (list_at (form_c false rec_c) n s at)) (applied_in t k) (list_at (form_c false rec_c) n s at) (take n vs)
  judge_end e =
      let q : Judged t caught (own_ids ids (list_at (form_c false rec_c) n s at)) (applied_in t k) (list_at (form_c false rec_c) left s i) [] = rw (none_left (form_c false rec_c) s left i e).0 tt in
      let f : j ≡ n = omega (arith, x.count) in
      let g : take j vs ++ [] ≡ take n vs = append-nil (take j vs) ∙ ap (λ k. take k vs) f in
      rw g at (x.rest [] q)

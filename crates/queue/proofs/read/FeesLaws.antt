-- The candidates of an area, the set's ids, and each exit of the search. Assumes nothing.
use Rattle.std.specs.Prelude.{◌≡◌, refl, Bool, true, false, cond, not, List, [], ◌∷◌, ◌++◌, ℕ, zero, suc, ◌+◌, ◌-◌, ◌*◌, ◌/◌, ◌%◌, ◌^◌, ◌≤◌, ◌<◌, ltb, leb, eqb, length, take, drop, get_or, set}
use Rattle.std.proofs.Common.{ap, sym, ◌∙◌, append_assoc, append-nil, arith, le_of_suc-le-suc, add-one, length-append, length-set, length-take, drop-drop, get_or-drop, drop_at, take-suc, take-suc-set, take_all, take-take, lt-ltb, le-ltb, le-leb, ltb-true, ltb-false, leb-true, leb-false}
use Rattle.std.proofs.Math.Option.{none, some}
use Rattle.std.proofs.lemmas.Bool.{lt-leb, not-true, not-false}
use Rattle.queue.specs.Basics.{cons_same}
use Rattle.queue.specs.bytes.ListLaws.{sort_all}
use Rattle.queue.specs.Codec as codec
use Rattle.queue.specs.Codec.{All, cases, got, no_got, be_c, be_fwd, be_length}
use Rattle.queue.specs.Lists.{Pairwise, sub_all}
use Rattle.queue.specs.bytes.PutAs.{Put, be_last}
use Rattle.queue.specs.layout.FrameCodec.{rec_c, terms_k}
use Rattle.queue.specs.theorems.Plain.{terms_plain}
use Rattle.queue.specs.bytes.ReaderLaws.{Turn, SmallAt, be_at, be_here}
use Rattle.queue.specs.bytes.ReaderAs.{reads?}
use Rattle.queue.specs.bytes.ViewAs.{view}
use Rattle.queue.specs.layout.FormsCodec.{form_c, after_in_value, turn_in, stands_in}
use Rattle.queue.specs.layout.FrameAs.{terms_at, facts_of}
use Rattle.queue.specs.theorems.SoundParts.{fields_of, Before}
use Rattle.queue.specs.check.AreaAs.{AreaAs, records_of}
use Rattle.queue.specs.Areas.{read_area}
use Rattle.queue.specs.Checked.{Written, written}
use Rattle.queue.specs.read.SelectAs.{Row, ahead?, id_at, RowIs, RowsAs, chosen, Selected, RecStands, PlaceAdded}
use Rattle.queue.specs.read.fees.Laws as laws
use Rattle.queue.specs.read.fees.Claims.{set_sub, nodes_min}
use Rattle.queue.specs.read.fees.Maps.{map_best}
use Rattle.queue.specs.read.fees.Masks.{places, item, mask, unmask, said}
use Rattle.queue.specs.read.fees.Rows.{rows_all, of_rows, unmask_set}
use Rattle.queue.specs.read.FeesAs.{no_rec, rec_at_value, rec_of_row, Known, Candidates, sizes_of, fees_of, choice_bytes}
use Rattle.queue.specs.paper.Records.{Bytes, Id, Terms, Rec, Queue}
use Rattle.queue.specs.paper.Lists.{total, filter, sort, map, concat}
use Rattle.queue.specs.paper.Area.{flagged, terms_under, terms_bytes}
use Rattle.queue.specs.paper.Changing.{top}
use Rattle.queue.specs.paper.Reading.{first?, selected?}
use Rattle.queue.specs.paper.Calls.{ids_bytes, told_out}
use Rattle.queue.specs.paper.Fees.{Best, best_fees_value, size_of, fee_of, best_bytes, search_of, best_fees_of}
use Rattle.queue.specs.declared.Kind.TheVariants.{Nothing}
use Rattle.queue.specs.paper.Answer.{Refused, Done}
use Rattle.queue.specs.declared.layout.frame.Seen.{Seen}
use Rattle.queue.specs.declared.check.area.Area.{Area}
use Rattle.queue.specs.declared.read.fees.Choice.{Choice}
use Rattle.queue.specs.declared.read.fees.Candidate.{Candidate}
use Rattle.queue.proofs.read.FeesWalkLaws.{many_sizes, many_fees}
use Rattle.queue.proofs.bytes.PutLaws.{then, recast}
use Rattle.queue.proofs.bytes.PutByteLaws.{be_same, between}
use Rattle.queue.proofs.layout.TurnLaws.{SeenIn, FoundRec}
use Rattle.queue.proofs.read.ReadingLaws.{told_4, told_100}
use Rattle.queue.proofs.read.SelectLaws.{sort_rows, ids_size, selected_long}

-- ---- the fee of a record that was read: the terms end with fee 8, size 4, cost 8
abbrev front : Terms → Bytes
front t =
    codec.be 8 t.created
    ++ (flagged (codec.be 8) t.due
    ++ (flagged (codec.be 4) t.due_height ++ (codec.be 8 t.priority ++ flagged (λ l. codec.be 1 (length l) ++ l) t.label)))

abbrev back : Terms → Bytes
back t = codec.be 4 t.size ++ codec.be 8 t.cost

group : (a b c d e x : Bytes) → a ++ (b ++ (c ++ (d ++ (e ++ x)))) ≡ (a ++ (b ++ (c ++ (d ++ e)))) ++ x
group a b c d e x = simp append_assoc

terms_split : (t : Terms) → terms_bytes t ≡ front t ++ (codec.be 8 t.fee ++ back t)
unfolding terms_under
terms_split t = group (codec.be 8 t.created) (flagged (codec.be 8) t.due) (flagged (codec.be 4) t.due_height) (codec.be 8 t.priority) (flagged (λ l. codec.be 1 (length l) ++ l) t.label) (codec.be 8 t.fee ++ back t)

fee_small : (r : Rec) → rec_c.ok r → r.terms.fee < 256 ^ 8
unfolding terms_k codec.map_c codec.pair_c be_c
fee_small r h = (fields_of r h).terms.1.1.1.1.1.0

module _ {s : Bytes} {i m : ℕ} {y : Seen} {r : Rec} (w : SeenIn false s i m y r) where
  abbrev v : Bytes
  v = view false s i

  fee_within : y.after ≤ length v
  fee_within = omega (arith, w.0.up_place, w.0.up_body, w.0.end)

  fee_here : (be_c 8).dec (drop (y.after - 20) v) ≡ got r.terms.fee (back r.terms ++ drop y.after v)
  unfolding be_c
  fee_here =
      let t = r.terms in
      let e : drop terms_at v ≡ terms_bytes t ++ drop y.after v = w.0.terms ∙ ap (λ (x : Bytes). x ++ drop y.after v) (terms_plain t) in
      let l = (between v (terms_bytes t) terms_at y.after e w.0.up fee_within).1 in
      let k : length (terms_bytes t) ≡ length (front t) + 20 = omega (arith, ap length (terms_split t), length-append (front t) (codec.be 8 t.fee ++ back t), length-append (codec.be 8 t.fee) (back t), length-append (codec.be 4 t.size) (codec.be 8 t.cost), be_length 8 t.fee, be_length 4 t.size, be_length 8 t.cost) in
      let n : y.after - 20 ≡ terms_at + length (front t) = omega (arith, w.0.up) in
      let d : drop (y.after - 20) v ≡ codec.be 8 t.fee ++ (back t ++ drop y.after v) =
      ap (λ (x : ℕ). drop x v) n ∙ sym (drop-drop (length (front t)) terms_at v) ∙ ap (drop (length (front t))) (e ∙ ap (λ (x : Bytes). x ++ drop y.after v) (terms_split t) ∙ append_assoc (front t) (codec.be 8 t.fee ++ back t) (drop y.after v))
      ∙ drop_at (front t) ((codec.be 8 t.fee ++ back t) ++ drop y.after v) (length (front t)) refl ∙ append_assoc (codec.be 8 t.fee) (back t) (drop y.after v) in
      ap (codec.be_dec 8) d ∙ be_fwd 8 t.fee (back t ++ drop y.after v) (fee_small r w.1.fine)

num_is : (v : Bytes) {rest : Bytes} (at : ℕ) {n x : ℕ} → SmallAt v → at + 8 ≤ length v → n ≡ be_at 8 v at → (be_c 8).dec (drop at v) ≡ got x rest → n ≡ x
unfolding be_c
num_is v {rest} at {n} {x} s h e d =
    let g : got (be_at 8 v at) (drop (at + 8) v) ≡ got x rest = sym (be_here 8 v at h s) ∙ d in
    let k : be_at 8 v at ≡ x = cc in
    e ∙ k

-- one that a reader may read
pub stands_at : (s : Bytes) (p : ℕ) → RecStands s p → reads? rec_c (view false s p) 0 ≡ true
stands_at s p h = stands_in rec_c false s 1 h.0 h.1 (omega arith)

module _ (s : Bytes) (p : ℕ) {m : ℕ} {y : Seen} (h : RecStands s p) (rd : FoundRec false s p m y) where
  pub the_turn : Turn (form_c false rec_c) s 1 p (after_in_value false s p m) (SeenIn false s p m y)
  the_turn = turn_in false 1 h.0 h.1 (omega arith) rd

  pub rec_is : rec_at_value s p ≡ the_turn.item
  unfolding rec_at_value
  rec_is = ap (λ (l : List Rec). get_or l 0 no_rec) the_turn.list

  pub terms_after : 20 ≤ y.after
  terms_after = omega (arith, the_turn.is.0.up)

  pub fee_room : y.after - 20 + 8 ≤ length (view false s p)
  fee_room = omega (arith, terms_after, fee_within the_turn.is)

  bytes_small : ((j : ℕ) → get_or s j 0 < 256) → SmallAt (view false s p)
  unfolding view
  bytes_small f j l = rw get_or-drop (f (p + j))

  pub candidate_is : {n : ℕ} → ((j : ℕ) → get_or s j 0 < 256) → n ≡ be_at 8 (view false s p) (y.after - 20) → (y.facts.bytes ≡ size_of (rec_at_value s p)) × (n ≡ fee_of (rec_at_value s p))
  unfolding facts_of
  candidate_is small u = (
    ap (λ f. f.bytes) the_turn.is.0.facts ∙ ap size_of (sym rec_is),
    num_is (view false s p) (y.after - 20) (bytes_small small) fee_room u (fee_here the_turn.is) ∙ ap fee_of (sym rec_is),
  )

-- ---- columns
pub get_d_map : {A : Type 0} (f : ℕ → A) (l : List ℕ) (j : ℕ) (d : A) → j < length l → get_or (map f l) j d ≡ f (get_or l j 0)
get_d_map f [] j d h = absurd (let y : ⊥ = omega arith in y)
get_d_map f (a ∷ l) zero d h = refl
get_d_map f (a ∷ l) (suc j) d h = get_d_map f l j d (le_of_suc-le-suc h)

-- the first j of a column are filled
pub record Filled (f : ℕ → ℕ) (l d : List ℕ) (j : ℕ) : Type 0 where
  pub len : length d ≡ 20
  pub is : take j d ≡ take j (map f l)

module _ (f : ℕ → ℕ) {l : List ℕ} (few : length l ≤ 20) where
  pub filled_go : {d : List ℕ} {j x : ℕ} → Filled f l d j → j < length l → x ≡ f (get_or l j 0) → Filled f l (set d j x) (j + 1)
  filled_go {d} {j} {x} w h e =
      let n = w.len in
      let a = take-suc-set d j x (omega arith) in
      let b = take-suc (map f l) j 0 (omega (arith, laws.length_map f l)) in
      let c : x ≡ get_or (map f l) j 0 = e ∙ sym (get_d_map f l j 0 h) in
      rw (add-one j) (record { len = length-set d j x ∙ n; is = a ∙ rw (w.is, c) refl ∙ sym b })

  pub filled_end : {d : List ℕ} {j : ℕ} → Filled f l d j → j ≤ length l → length l ≤ j → take (length l) d ≡ map f l
  filled_end {d} {j} w g h =
      let e : length l ≡ j = omega arith in
      ap (λ (n : ℕ). take n d) e ∙ w.is ∙ take_all j (map f l) (omega (arith, laws.length_map f l))

set_sizes : (z : List Candidate) (j : ℕ) (c : Candidate) → sizes_of (set z j c) ≡ set (sizes_of z) j c.size
set_sizes [] j c = refl
set_sizes (x ∷ z) zero c = refl
set_sizes (x ∷ z) (suc j) c = ap (λ l. x.size ∷ l) (set_sizes z j c)

set_fees : (z : List Candidate) (j : ℕ) (c : Candidate) → fees_of (set z j c) ≡ set (fees_of z) j c.fee
set_fees [] j c = refl
set_fees (x ∷ z) zero c = refl
set_fees (x ∷ z) (suc j) c = ap (λ l. x.fee ∷ l) (set_fees z j c)

-- the first j candidates are filled
pub record Filling (s : Bytes) (l : List ℕ) (z : List Candidate) (j : ℕ) : Type 0 where
  pub len : length z ≡ 20
  pub sizes : Filled (λ p. size_of (rec_at_value s p)) l (sizes_of z) j
  pub fees : Filled (λ p. fee_of (rec_at_value s p)) l (fees_of z) j

pub filling_start : (s : Bytes) (l : List ℕ) (z : List Candidate) → length z ≡ 20 → Filling s l z 0
filling_start s l z h = record { len = h; sizes = record { len = many_sizes z ∙ h; is = refl }; fees = record { len = many_fees z ∙ h; is = refl } }

module _ {s : Bytes} {l : List ℕ} (few : length l ≤ 20) where
  pub filling_go : {z : List Candidate} {j : ℕ} {c : Candidate} → Filling s l z j → j < length l → c.size ≡ size_of (rec_at_value s (get_or l j 0)) → c.fee ≡ fee_of (rec_at_value s (get_or l j 0)) → Filling s l (set z j c) (j + 1)
  filling_go {z} {j} {c} w h a b = record {
    len = length-set z j c ∙ w.len;
    sizes = rw (set_sizes z j c) (filled_go (λ p. size_of (rec_at_value s p)) few w.sizes h a);
    fees = rw (set_fees z j c) (filled_go (λ p. fee_of (rec_at_value s p)) few w.fees h b);
  }

  pub filling_end : {z : List Candidate} {j : ℕ} → Filling s l z j → j ≤ length l → length l ≤ j → Candidates s l (take (length l) z) × (length z ≡ 20)
  filling_end {z} {j} w g h = (
    record {
      sizes = sym (laws.take_map (λ (c : Candidate). c.size) (length l) z) ∙ filled_end (λ p. size_of (rec_at_value s p)) few w.sizes g h;
      fees = sym (laws.take_map (λ (c : Candidate). c.fee) (length l) z) ∙ filled_end (λ p. fee_of (rec_at_value s p)) few w.fees g h;
    },
    w.len,
  )

pub known_at : (s : Bytes) (l : List ℕ) (j : ℕ) → All (Known s) l → j < length l → Known s (get_or l j 0)
known_at s [] j h k = absurd (let y : ⊥ = omega arith in y)
known_at s (a ∷ l) zero h k = h.0
known_at s (a ∷ l) (suc j) h k = known_at s l j h.1 (le_of_suc-le-suc k)

-- ---- the places of a set
pub record Picking (l : List ℕ) (set : ℕ) (d : List ℕ) (j g m : ℕ) : Type 0 where
  pub upto : j ≤ length l
  pub few : g ≤ j
  pub len : length d ≡ 20
  pub is : take g d ++ map (item l) (unmask (length l - j) j m) ≡ map (item l) (unmask (length l) 0 set)

pub picking_start : (l : List ℕ) (set : ℕ) {d : List ℕ} → length d ≡ 20 → Picking l set d 0 0 set
picking_start l set e = record { upto = omega arith; few = omega arith; len = e; is = rw (let z : length l - 0 ≡ length l = omega arith in z) refl }

module _ {l : List ℕ} {set₀ : ℕ} {d : List ℕ} {j g m : ℕ} (w : Picking l set₀ d j g m) (h : j < length l) where
  abbrev rest : List ℕ
  rest = unmask (length l - suc j) (suc j) (m / 2)

  next_place : unmask (length l - j) j m ≡ cond (eqb (m % 2) 1) (j ∷ rest) rest
  next_place = rw (let z : length l - j ≡ suc (length l - suc j) = omega arith in z) refl

  pub picking_go : {r : ℕ} {d' : List ℕ} → length l ≤ 20 → PlaceAdded (eqb (m % 2) 1) g (get_or l j 0) d r d' → Picking l set₀ d' (j + 1) r (m / 2)
  picking_go {r} {d'} q p =
      let few = w.few in
      let len = w.len in
      rw (add-one j) (cases (eqb (m % 2) 1)
      (λ t.
      let u = p.yes t in
      let a : take (suc g) d' ≡ take g d ++ (get_or l j 0 ∷ []) = ap (take (suc g)) u.1 ∙ take-suc-set d g (get_or l j 0) (omega arith) in
      let e : r ≡ suc g = u.0 ∙ add-one g in
      let n : unmask (length l - j) j m ≡ j ∷ rest = next_place ∙ ap (λ (x : Bool). cond x (j ∷ rest) rest) t in
      let z : length d' ≡ 20 = rw u.1 (length-set d g (get_or l j 0) ∙ len) in
      let k : take (suc g) d' ++ map (item l) rest ≡ take g d ++ map (item l) (j ∷ rest) = ap (λ (x : List ℕ). x ++ map (item l) rest) a ∙ append_assoc (take g d) (get_or l j 0 ∷ []) (map (item l) rest) in
      rw e (record { upto = omega arith; few = omega arith; len = z; is = k ∙ ap (λ (x : List ℕ). take g d ++ map (item l) x) (sym n) ∙ w.is }))
      (λ t.
      let u = p.no t in
      let n : unmask (length l - j) j m ≡ rest = next_place ∙ ap (λ (x : Bool). cond x (j ∷ rest) rest) t in
      let z : length d' ≡ 20 = rw u.1 len in
      let k : take g d' ++ map (item l) rest ≡ take g d ++ map (item l) rest = ap (λ (x : List ℕ). take g x ++ map (item l) rest) u.1 in
      rw u.0 (record { upto = omega arith; few = omega arith; len = z; is = k ∙ ap (λ (x : List ℕ). take g d ++ map (item l) x) (sym n) ∙ w.is })))

pub picking_end : {l : List ℕ} {set : ℕ} {d : List ℕ} {j g m : ℕ} → Picking l set d j g m → length l ≤ j → take g d ≡ map (item l) (unmask (length l) 0 set)
picking_end {l} {set} {d} {j} {g} {m} w h =
    let z : length l - j ≡ 0 = omega arith in
    sym (append-nil (take g d)) ∙ ap (λ (n : ℕ). take g d ++ map (item l) (unmask n j m)) (sym z) ∙ w.is

pub few_picked : (l : List ℕ) (r : ℕ) → r ≤ 20 → length (take r l) ≤ 20
few_picked l r h = omega (arith, length-take r l)

-- ---- the answer's bytes
module _ (s out : Bytes) (b : Choice) (picked : List ℕ) (all : All (λ p. p + 33 ≤ length s) picked) where
  abbrev ids : List Id
  ids = map (id_at s) picked

  ids_many : length ids ≡ length picked
  ids_many = laws.length_map (id_at s) picked

  choice_size : length (choice_bytes b ids) ≡ 24 + 32 * length picked
  unfolding choice_bytes ids_bytes
  choice_size = omega (arith, ids_size s picked all)

  pub best_4 : length out < 24 + 32 * length picked → written (Refused 4) out ≡ told_out (choice_bytes b ids) out
  best_4 h = sym (told_4 (choice_bytes b ids) out (omega (arith, choice_size)))

  pub best_100 : {o₁ o₂ o₃ o₄ o₅ : Bytes} {r₁ r₂ r₃ r₄ r₅ : ℕ} → b.fee < 256 ^ 8 → b.nodes < 256 ^ 4 → b.distance < 256 ^ 8 → length picked < 256 ^ 4 → 24 + 32 * length picked ≤ length out
      → Put out 0 (be_last 8 b.fee) 8 r₁ o₁ → Put o₁ r₁ (be_last 4 b.nodes) 4 r₂ o₂ → Put o₂ r₂ (be_last 8 b.distance) 8 r₃ o₃ → Put o₃ r₃ (be_last 4 (length picked)) 4 r₄ o₄
      → Put o₄ r₄ (concat ids) (32 * length picked) r₅ o₅ → written (Done Nothing) o₅ ≡ told_out (choice_bytes b ids) out
  unfolding choice_bytes ids_bytes
  best_100 f n d c h p₁ p₂ p₃ p₄ p₅ =
      let e = join (be_same 8 b.fee f) (be_same 4 b.nodes n) (be_same 8 b.distance d) (be_same 4 (length picked) c ∙ ap (codec.be 4) (sym ids_many)) (concat ids) in
      sym (told_100 (recast (then p₁ (then p₂ (then p₃ (then p₄ p₅)))) e refl refl) (omega arith))
    where
      join : {a a' b b' c c' d d' : Bytes} → a ≡ a' → b ≡ b' → c ≡ c' → d ≡ d' → (x : Bytes) → a ++ (b ++ (c ++ (d ++ x))) ≡ a' ++ (b' ++ (c' ++ (d' ++ x)))
      join p q r s x = cc

-- ---- the candidates at places
module _ (s : Bytes) (at : List ℕ) (few : length at ≤ 20) (all : All (Known s) at) where
  abbrev recs : List Rec
  recs = map (rec_at_value s) at

  map_map : (f : Rec → ℕ) (l : List ℕ) → map (λ p. f (rec_at_value s p)) l ≡ map f (map (rec_at_value s) l)
  map_map f [] = refl
  map_map f (p ∷ l) = ap (λ (x : List ℕ). f (rec_at_value s p) ∷ x) (map_map f l)

  total_items : (l : List ℕ) (p : List ℕ) → total (item l) p ≡ total (λ (x : ℕ). x) (map (item l) p)
  total_items l [] = refl
  total_items l (a ∷ p) = ap (λ (n : ℕ). item l a + n) (total_items l p)

  total_map : (f : Rec → ℕ) (l : List Rec) → total (λ (x : ℕ). x) (map f l) ≡ total f l
  total_map f [] = refl
  total_map f (r ∷ l) = ap (λ (n : ℕ). f r + n) (total_map f l)

  module _ {sizes fees : List ℕ} (a : sizes ≡ map (λ p. size_of (rec_at_value s p)) at) (b : fees ≡ map (λ p. fee_of (rec_at_value s p)) at) where
    sizes_are : sizes ≡ map size_of recs
    sizes_are = a ∙ map_map size_of at

    fees_are : fees ≡ map fee_of recs
    fees_are = b ∙ map_map fee_of at

    many : length sizes ≡ length at
    many = ap length a ∙ laws.length_map (λ p. size_of (rec_at_value s p)) at

    pub even : length sizes ≡ length fees
    even = many ∙ sym (ap length b ∙ laws.length_map (λ p. fee_of (rec_at_value s p)) at)

    pub few_sizes : length sizes ≤ 20
    few_sizes = omega (arith, many)

    sum_is : total (item fees) (places (length fees) (length fees)) ≡ total fee_of recs
    sum_is = total_items fees (places (length fees) (length fees)) ∙ ap (total (λ (x : ℕ). x)) (rows_all 0 fees ∙ fees_are) ∙ total_map fee_of recs

    pub sum_known : {r : Bool} → r ≡ ltb (total (item fees) (places (length fees) (length fees))) (2 ^ 64) → not r ≡ false
        → total (item fees) (places (length sizes) (length sizes)) < 2 ^ 64
    sum_known {r} e n =
        ltb-true (total (item fees) (places (length sizes) (length sizes))) (2 ^ 64)
        (ap (λ (k : ℕ). ltb (total (item fees) (places k k)) (2 ^ 64)) even ∙ sym e ∙ not-false r n)

    pub best_21 : (limit budget : ℕ) (out : Bytes) {r : Bool} → r ≡ ltb (total (item fees) (places (length fees) (length fees))) (2 ^ 64) → not r ≡ true
        → written (Refused 21) out ≡ search_of recs limit budget out
    unfolding search_of
    best_21 limit budget out {r} e n =
        let h : 2 ^ 64 ≤ total fee_of recs = ltb-false (total fee_of recs) (2 ^ 64) (ap (λ (k : ℕ). ltb k (2 ^ 64)) (sym sum_is) ∙ sym e ∙ not-true r n) in
        rw (lt-ltb top (total fee_of recs) (omega arith)) refl

    module _ (limit budget : ℕ) (pos : 0 < budget) {c : Choice} (is : c ≡ said (best_fees_value (item sizes) (item fees) (places (length sizes) (length sizes)) limit budget)) where
      abbrev B : Best ℕ
      B = best_fees_value (item sizes) (item fees) (places (length sizes) (length sizes)) limit budget

      nodes_few : c.nodes ≤ budget
      unfolding said
      nodes_few = let n = nodes_min (item sizes) (item fees) (places (length sizes) (length sizes)) limit budget in let e = ap (λ (x : Choice). x.nodes) is in omega arith

      pub nodes_small : budget ≤ 2097151 → c.nodes < 4294967296
      nodes_small h = omega (arith, nodes_few)

      -- the best over the records is the best over places
      whole_best : best_fees_value size_of fee_of recs limit budget ≡ map_best (λ p. get_or recs p no_rec) B
      whole_best =
          of_rows no_rec size_of fee_of recs limit budget pos
          ∙ rw (← sizes_are, ← fees_are) refl

      below : (n k : ℕ) → k ≤ n → All (λ p. p < n) (places n k)
      below n zero h = tt
      below n (suc k) h = (omega arith, below n k (omega arith))

      set_below : All (λ p. p < length at) B.set
      set_below = sub_all (λ p. p < length at) (set_sub (item sizes) (item fees) (places (length sizes) (length sizes)) limit budget)
          (rw many (below (length at) (length at) (omega arith)))

      picked_is : {l : List ℕ} → l ≡ map (item at) (unmask (length at) 0 c.set) → l ≡ map (item at) B.set
      unfolding said
      picked_is e =
          e ∙ ap (λ (x : Choice). map (item at) (unmask (length at) 0 x.set)) is
          ∙ ap (map (item at)) (ap (λ (n : ℕ). unmask n 0 (mask B.set)) (sym many) ∙ unmask_set sizes fees limit budget)

      ids_of : (l : List ℕ) → All (λ p. p < length at) l → map (id_at s) (map (item at) l) ≡ map (λ (r : Rec). r.id) (map (λ p. get_or recs p no_rec) l)
      ids_of [] h = refl
      ids_of (p ∷ l) h =
          let e : id_at s (item at p) ≡ (get_or recs p no_rec).id = (known_at s at p all h.0).id ∙ ap (λ (r : Rec). r.id) (sym (get_d_map (rec_at_value s) at p no_rec h.0)) in
          cons_same e (ids_of l h.1)

      within_of : (l : List ℕ) → All (λ p. p < length at) l → All (λ p. p + 33 ≤ length s) (map (item at) l)
      within_of [] h = tt
      within_of (p ∷ l) h = ((known_at s at p all h.0).within, within_of l h.1)

      pub picked_within : {l : List ℕ} → l ≡ map (item at) (unmask (length at) 0 c.set) → All (λ p. p + 33 ≤ length s) l
      picked_within e = rw (picked_is e) (within_of B.set set_below)

      bytes_are : {l : List ℕ} → l ≡ map (item at) (unmask (length at) 0 c.set) → choice_bytes c (map (id_at s) l) ≡ best_bytes (best_fees_value size_of fee_of recs limit budget)
      unfolding choice_bytes best_bytes said
      bytes_are {l} e =
          let i : map (id_at s) l ≡ map (λ (r : Rec). r.id) (map (λ p. get_or recs p no_rec) B.set) = ap (map (id_at s)) (picked_is e) ∙ ids_of B.set set_below in
          rw (i, is) refl ∙ ap best_bytes (sym whole_best)

      pub best_told : (out : Bytes) {l : List ℕ} {w : Written} {r : Bool} → r ≡ ltb (total (item fees) (places (length fees) (length fees))) (2 ^ 64) → not r ≡ false
          → l ≡ map (item at) (unmask (length at) 0 c.set) → w ≡ told_out (choice_bytes c (map (id_at s) l)) out → w ≡ search_of recs limit budget out
      unfolding search_of
      best_told out {l} {w} {r} e n p q =
          let h : total fee_of recs < 2 ^ 64 = ltb-true (total fee_of recs) (2 ^ 64) (ap (λ (k : ℕ). ltb k (2 ^ 64)) (sym sum_is) ∙ sym e ∙ not-false r n) in
          q ∙ ap (λ (x : Bytes). told_out x out) (bytes_are p) ∙ rw (le-ltb top (total fee_of recs) (omega arith)) refl

-- ---- the rows in order
known_take : (s : Bytes) (n : ℕ) (l : List ℕ) → All (Known s) l → All (Known s) (take n l)
known_take s n l h = laws.all_take (Known s) n l h

pub places_known : (s : Bytes) (z : List Row) → All (λ w. Known s w.1.1) z → All (Known s) (map (λ (w : Row). w.1.1) z)
places_known s [] h = tt
places_known s (w ∷ z) h = (h.0, places_known s z h.1)

pub map_recs : (s : Bytes) (z : List Row) → map (rec_at_value s) (map (λ (w : Row). w.1.1) z) ≡ map (rec_of_row s) z
map_recs s [] = refl
map_recs s (w ∷ z) = ap (λ (l : List Rec). rec_of_row s w ∷ l) (map_recs s z)

-- the first 20, or all where there are fewer
first_some : {A : Type 0} (l : List A) (n : ℕ) → (20 ≤ length l → n ≡ 20) → (length l ≤ 20 → n ≡ length l) → take n l ≡ take 20 l
first_some l n f g = cases (leb 20 (length l))
    (λ t. ap (λ (k : ℕ). take k l) (f (leb_le t)))
    (λ t. let h = leb_gt t in ap (λ (k : ℕ). take k l) (g (omega arith)) ∙ take_all (length l) l (omega arith) ∙ sym (take_all 20 l (omega arith)))
  where
    leb_le : leb 20 (length l) ≡ true → 20 ≤ length l
    leb_le t = leb-true 20 (length l) t

    leb_gt : leb 20 (length l) ≡ false → length l < 20
    leb_gt t = leb-false 20 (length l) t

pub first_few : (c : List ℕ) (n : ℕ) → n ≤ 20 → length (take n c) ≤ 20
first_few c n h = few_picked c n h

-- ---- the rows that were gathered
row_rec : {s : Bytes} {w : Row} {r : Rec} → RowIs s w r → rec_of_row s w ≡ r
unfolding rec_at_value
row_rec x = ap (λ (l : List Rec). get_or l 0 no_rec) x.here.2

row_known : {s : Bytes} {w : Row} {r : Rec} → RowIs s w r → Known s w.1.1
row_known {s} {w} {r} x = record { stands = (x.here.0, x.here.1); id = x.id ∙ ap (λ (y : Rec). y.id) (sym (row_rec x)); within = x.within }

pub rows_known : (s : Bytes) (z : List Row) (l : List Rec) → RowsAs s z l → All (λ w. Known s w.1.1) z
rows_known s [] l h = tt
rows_known s (w ∷ z) [] h = absurd h
rows_known s (w ∷ z) (r ∷ l) h = (row_known h.0, rows_known s z l h.1)

pub rows_recs : (s : Bytes) (z : List Row) (l : List Rec) → RowsAs s z l → map (rec_of_row s) z ≡ l
rows_recs s [] [] h = refl
rows_recs s [] (r ∷ l) h = absurd h
rows_recs s (w ∷ z) [] h = absurd h
rows_recs s (w ∷ z) (r ∷ l) h = cons_same (row_rec h.0) (rows_recs s z l h.1)

-- the places that were selected, and the first 20 of them
module _ {s : Bytes} {l : List Rec} {n : ℕ} {c : List ℕ} (x : Selected s l n c) where
  pub selected_known : All (Known s) (take n c)
  selected_known = rw x.places (places_known s (sort ahead? x.table) (sort_all ahead? (λ w. Known s w.1.1) x.table (rows_known s x.table l x.listed)))

  pub selected_recs : Pairwise Before l → map (rec_at_value s) (take n c) ≡ sort first? l
  selected_recs h = ap (map (rec_at_value s)) x.places ∙ map_recs s (sort ahead? x.table) ∙ rows_recs s (sort ahead? x.table) (sort first? l) (sort_rows s x.table l x.listed h)

  first_of : (k : ℕ) → k ≤ n → take k c ≡ take k (take n c)
  first_of k h = sym (take-take k n c h)

  pub first_known : (k : ℕ) → k ≤ n → All (Known s) (take k c)
  first_known k h = rw (first_of k h) (known_take s k (take n c) selected_known)

  pub first_told : Pairwise Before l → (limit budget : ℕ) (out : Bytes) {k : ℕ} {w : Written} → k ≤ n → (20 ≤ n → k ≡ 20) → (n ≤ 20 → k ≡ n)
      → w ≡ search_of (map (rec_at_value s) (take k c)) limit budget out → w ≡ search_of (take 20 (sort first? l)) limit budget out
  first_told p limit budget out {k} h f g e =
      e ∙ ap (λ (y : List ℕ). search_of (map (rec_at_value s) y) limit budget out) (first_of k h ∙ first_some (take n c) k (λ m. f (omega (arith, selected_long x))) (λ m. let q = g (omega (arith, selected_long x)) in omega (arith, selected_long x)))
      ∙ ap (λ (y : List Rec). search_of y limit budget out) (sym (laws.take_map (rec_at_value s) 20 (take n c)) ∙ ap (take 20) (selected_recs p))

-- ---- the call
pub fees_3 : (s : Bytes) (limit budget now height : ℕ) (out : Bytes) → read_area s ≡ none → written (Refused 3) out ≡ best_fees_of s limit budget now height out
unfolding best_fees_of
fees_3 s limit budget now height out e = rw e refl

module _ {s : Bytes} {x : Area} (limit budget now height : ℕ) {q : Queue} (a : AreaAs s x q) (r : read_area s ≡ some q) (out : Bytes) where
  pub fees_low : budget < 1 → written (Refused 5) out ≡ best_fees_of s limit budget now height out
  unfolding best_fees_of
  fees_low h = rw (r, lt-leb 1 budget h) refl

  pub fees_high : 2097151 < budget → written (Refused 5) out ≡ best_fees_of s limit budget now height out
  unfolding best_fees_of
  fees_high h = rw (r, le-leb 1 budget (omega arith), lt-leb budget 2097151 h) refl

  pub fees_100 : {w : Written} → 1 ≤ budget → budget ≤ 2097151 → w ≡ search_of (take 20 (sort first? (chosen now height s (records_of x.open)))) limit budget out
      → w ≡ best_fees_of s limit budget now height out
  unfolding best_fees_of chosen
  fees_100 h k e =
      e ∙ ap (λ (l : List Rec). search_of (take 20 (sort first? (filter (selected? now height) l))) limit budget out) a.store.list
      ∙ sym (rw (r, le-leb 1 budget h, le-leb budget 2097151 k) refl)

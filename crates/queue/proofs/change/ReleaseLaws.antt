-- The Mined holders, their order, and which of them are released. Assumes nothing.
use Rattle.std.specs.Prelude as code
use Rattle.std.specs.Prelude.{◌≡◌, refl, Bool, true, false, cond, ◌||◌, List, [], ◌∷◌, ◌++◌, ℕ, zero, suc, ◌+◌, ◌-◌, ◌*◌, ◌/◌, ◌%◌, ◌≤◌, ◌<◌, ltb, leb, eqb, length, take, drop, get_or, set}
use Rattle.std.proofs.Common.{ap, sym, ◌∙◌, append_assoc, append-nil, arith, le_of_suc-le-suc, add-one, length-drop, length-set, drop_of_length-le, drop-cons, take-suc, take_all, take-suc-set, eq-eqb, ne_eqb, eqb-true}
use Rattle.std.proofs.Math.Option.{Option, none, some}
use Rattle.std.proofs.lemmas.Bool.{lt-leb}
use Rattle.queue.specs.Basics.{cons_same}
use Rattle.queue.specs.Codec.{All, cases}
use Rattle.queue.specs.Lists.{Pairwise}
use Rattle.queue.specs.bytes.ListLaws.{and_false, sort_all}
use Rattle.queue.specs.bytes.OrderLaws.{cmp_flip}
use Rattle.queue.specs.layout.FrameCodec.{rec_c}
use Rattle.queue.specs.bytes.ViewAs.{view}
use Rattle.queue.specs.bytes.ReaderAs.{whole, list_at}
use Rattle.queue.specs.bytes.ReaderLaws.{Turn, be_at, false_true, none_left}
use Rattle.queue.specs.layout.FormsCodec.{form_c, after_in_value}
use Rattle.queue.specs.layout.RecordsAs.{records}
use Rattle.queue.specs.layout.FrameAs.{facts_of, mined_at}
use Rattle.queue.specs.theorems.SoundParts.{Before}
use Rattle.queue.specs.read.SelectAs.{Row, row_of, Standing, ahead_of, ahead?, RankedAdded, id_at, RecStands, PlaceAdded}
use Rattle.queue.specs.change.TouchAs.{SeenOf, as_touched, verdict_of_value, InEntry}
use Rattle.queue.specs.change.AdmitAs.{height_of}
use Rattle.queue.specs.change.ReleaseAs.{next_v, next_l, mined_of, mined_f, height_f, bytes_at, MinedRow, FallingRows, MinedRows, MinedGathered, walk_r}
use Rattle.queue.specs.paper.Decisions.{mined_holder?}
use Rattle.queue.specs.paper.Records.{Bytes, Id, Limits, Rec}
use Rattle.queue.specs.paper.Lists.{total, filter, insert, sort, map, maybe}
use Rattle.queue.specs.paper.Ids.{cmp_l, below?}
use Rattle.queue.specs.paper.Sound.{holder?, content}
use Rattle.queue.specs.paper.Changing.{confirm, mined_height, newer?, releases}
use Rattle.queue.specs.declared.layout.frame.Seen.{Seen}
use Rattle.queue.specs.declared.read.select.Ranked.{Ranked}
use Rattle.queue.specs.declared.layout.frame.Facts.{Facts}
use Rattle.queue.specs.declared.layout.frame.Height.{Height}
use Rattle.queue.specs.change.TouchAs.{VerdictNumbers}
use Rattle.queue.proofs.layout.TurnLaws.{Scan, start, on, SeenIn, FoundRec, seen}
use Rattle.queue.proofs.check.ScanLaws.{nothing_f}
use Rattle.queue.proofs.read.ReadingLaws.{id_here, one_here}
use Rattle.queue.proofs.read.SelectLaws as select
use Rattle.queue.proofs.read.SelectLaws.{table, table_snoc, standing_snoc, below_more}
use Rattle.queue.proofs.change.TouchLaws.{entry_height}

-- ---- each of a list
pub all_at : (P : ℕ → Type 0) (l : List ℕ) (j : ℕ) → All P l → j < length l → P (get_or l j 0)
all_at P [] j h k = absurd (let y : ⊥ = omega arith in y)
all_at P (a ∷ l) zero h k = h.0
all_at P (a ∷ l) (suc j) h k = all_at P l j h.1 (le_of_suc-le-suc k)

-- ---- one record after its verdict
pub verdict_within : (t : Bytes) {v : VerdictNumbers} (c : ℕ) → v ≡ verdict_of_value c → InEntry t c → v.what ≡ 1 → v.at + 68 ≤ length t
unfolding verdict_of_value
verdict_within t {v} c e h w =
    let a : c % 4 ≡ 1 = sym (ap (λ y. y.what) e) ∙ w in
    let b : v.at ≡ 68 * (c / 4) = ap (λ y. y.at) e ∙ rw a in
    omega (arith, h a)

module _ (s : Bytes) (base : ℕ) (x : Seen) (t : Bytes) (v : VerdictNumbers) (within : v.what ≡ 1 → v.at + 68 ≤ length t) (r : Rec) (w : SeenOf s base x r) where
  abbrev after : Rec
  after = maybe r (λ y. y) (as_touched t v r)

  state_is : x.facts.state ≡ r.state
  unfolding facts_of
  state_is = ap (λ f. f.state) w.0.facts

  holder_is : x.facts.holder ≡ holder? r
  unfolding facts_of
  holder_is = ap (λ f. f.holder) w.0.facts

  mined_is : (height_of x.facts.mined).0 ≡ (height_of (mined_at r.place)).0
  unfolding facts_of
  mined_is = ap (λ f. (height_of f.mined).0) w.0.facts

  height_same : (o : Option (ℕ × Id)) → (height_of (mined_at o)).0 ≡ maybe 0 (λ p. p.0) o
  height_same none = refl
  height_same (some p) = refl

  pub after_mined : mined_f v.what x.facts ≡ mined_holder? after
  unfolding mined_f as_touched confirm
  after_mined = sym (cases (eqb v.what 0)
      (λ a. let z = eqb-true v.what 0 a in rw (z, holder_is, state_is))
      (λ a. cases (eqb v.what 1)
      (λ b. rw (a, b, holder_is))
      (λ b. cases (eqb v.what 2) (λ c. rw (a, b, c)) (λ c. rw (a, b, c)))))

  pub after_height : mined_f v.what x.facts ≡ true → height_f t v x.facts ≡ mined_height after
  unfolding mined_f height_f as_touched confirm
  after_height h = sym (cases (eqb v.what 0)
      (λ a. let z = eqb-true v.what 0 a in rw z (sym (mined_is ∙ height_same r.place)))
      (λ a. cases (eqb v.what 1)
      (λ b. rw (a, b) (entry_height t v.at (within (eqb-true v.what 1 b))))
      (λ b. let z : ◌≡◌ {A = Bool} false true = rw (a, b) at h in false_true z)))

  pub after_id : after.id ≡ r.id
  unfolding as_touched confirm
  after_id = cases (eqb v.what 0)
      (λ a. rw a)
      (λ a. cases (eqb v.what 1)
      (λ b. rw (a, b))
      (λ b. cases (eqb v.what 2) (λ c. rw (a, b, c)) (λ c. rw (a, b, c))))

  pub after_body : after.body ≡ r.body
  unfolding as_touched confirm
  after_body = cases (eqb v.what 0)
      (λ a. rw a)
      (λ a. cases (eqb v.what 1)
      (λ b. rw (a, b))
      (λ b. cases (eqb v.what 2) (λ c. rw (a, b, c)) (λ c. rw (a, b, c))))

-- ---- what the code works out of a verdict
pub height_told : (o : code.Option Height) {h : Height} → h ≡ code.unwrap_or o (record { 0 = 0 }) → h.0 ≡ (height_of o).0
height_told (code.Some x) e = ap (λ k. k.0) e
height_told code.None e = ap (λ k. k.0) e

pub height_new : (t : Bytes) (v : VerdictNumbers) (f : Facts) {n : ℕ} → v.what ≡ 1 → n ≡ be_at 4 (view false t 0) (v.at + 32) → n ≡ height_f t v f
unfolding height_f
height_new t v f e h = h ∙ sym (ap (λ b. cond b (be_at 4 (view false t 0) (v.at + 32)) (height_of f.mined).0) (eq-eqb v.what 1 e))

pub height_old : (t : Bytes) (v : VerdictNumbers) (f : Facts) → (v.what ≡ 1 → ⊥) → (height_of f.mined).0 ≡ height_f t v f
unfolding height_f
height_old t v f e = sym (ap (λ b. cond b (be_at 4 (view false t 0) (v.at + 32)) (height_of f.mined).0) (ne_eqb v.what 1 e))

pub out_is : (height window p b level seen bytes : ℕ) {r a : Bool} {d : ℕ} → r ≡ (leb window d || a) → a ≡ (leb p seen || ltb b bytes) → d ≡ height - level → r ≡ (leb window (height - level) || (leb p seen || ltb b bytes))
out_is height window p b level seen bytes e f g = cc

-- ---- gathering
fall_snoc : (s : Bytes) (b : ℕ) (z : List Row) (l : List Rec) (w : Row) (r : Rec) → FallingRows s b z l → All (λ v. w.1.0 < v.1.0) z → MinedRow s w r → w.1.0 < b → FallingRows s b (z ++ (w ∷ [])) (l ++ (r ∷ []))
fall_snoc s b [] [] w r h a k c = (k, c, tt)
fall_snoc s b [] (x ∷ l) w r h a k c = absurd h
fall_snoc s b (v ∷ z) [] w r h a k c = absurd h
fall_snoc s b (v ∷ z) (x ∷ l) w r h a k c = (h.0, h.1, fall_snoc s v.1.0 z l w r h.2 a.1 k a.0)

all_more : (z : List Row) (a b : ℕ) → b ≤ a → All (λ (v : Row). a < v.1.0) z → All (λ (v : Row). b < v.1.0) z
all_more [] a b h k = tt
all_more (v ∷ z) a b h k = (let y = k.0 in omega arith, all_more z a b h k.1)

all_snoc : (z : List Row) (w : Row) (a : ℕ) → All (λ (v : Row). a < v.1.0) z → a < w.1.0 → All (λ (v : Row). a < v.1.0) (z ++ (w ∷ []))
all_snoc [] w a h k = (k, tt)
all_snoc (v ∷ z) w a h k = (h.0, all_snoc z w a h.1 k)

pub record Mining (s : Bytes) (at n : ℕ) (t : Bytes) (vs : List ℕ) (room i left j m : ℕ) (b : List Ranked) : Type 0 where
  pub count : j + left ≡ n
  pub scan : Scan (form_c false rec_c) nothing_f s n at tt i left tt
  pub size : length b ≡ room
  pub few : length (mined_of s (records at n) t vs) ≤ room
  pub upto : m ≤ length (mined_of s (records at n) t vs)
  pub rest : drop m (mined_of s (records at n) t vs) ≡ filter mined_holder? (next_v t (list_at (form_c false rec_c) left s i) (drop j vs))
  pub sofar : FallingRows s (n + 1) (table (take m b)) (take m (mined_of s (records at n) t vs))
  pub above : All (λ (v : Row). left < v.1.0) (table (take m b))
  pub stand : Standing (table (take m b))
  pub below : All (λ (v : Row). v.1.1 ≤ i) (table (take m b))

pub mine_start : (s : Bytes) (at n : ℕ) (t : Bytes) (vs : List ℕ) {room : ℕ} {b : List Ranked} → at ≤ length s → whole (form_c false rec_c) n s at ≡ true → length b ≡ room → length (mined_of s (records at n) t vs) ≤ room → Mining s at n t vs room at n 0 0 b
unfolding mined_of next_l
mine_start s at n t vs h w e f = record { count = omega arith; scan = start (form_c false rec_c) nothing_f s n at tt h w; size = e; few = f; upto = omega arith; rest = refl; sofar = tt; above = tt; stand = tt; below = tt }

module _ {s : Bytes} {at n : ℕ} {t : Bytes} {vs : List ℕ} {room i left j m : ℕ} {b : List Ranked} (g : Mining s at n t vs room i left j m b) (p : 0 < left) {z : ℕ} {y : Seen} (rd : FoundRec false s i z y) where
  abbrev turn : Turn (form_c false rec_c) s left i (after_in_value false s i z) (SeenIn false s i z y)
  turn = seen false g.scan p rd

  pub mine_seen : SeenOf s i y (seen false g.scan p rd).item
  mine_seen = (turn.is.0, turn.is.1.fine)

  module _ {v : VerdictNumbers} (eV : v ≡ verdict_of_value (get_or vs j 0)) (long : length vs ≡ n) (E : All (InEntry t) vs) {sel : Bool} (e : sel ≡ mined_f v.what y.facts) where
    within : v.what ≡ 1 → v.at + 68 ≤ length t
    within = verdict_within t (get_or vs j 0) eV (all_at (InEntry t) vs j E (omega (arith, g.count)))

    abbrev it : Rec
    it = maybe turn.item (λ y. y) (as_touched t v turn.item)

    abbrev L : List Rec
    L = mined_of s (records at n) t vs

    sel_is : mined_holder? it ≡ sel
    sel_is = sym (e ∙ after_mined s i y t v within turn.item mine_seen)

    behind : List Rec
    behind = filter mined_holder? (next_v t (list_at (form_c false rec_c) (left - 1) s (after_in_value false s i z)) (drop (j + 1) vs))

    cut : drop m L ≡ cond sel (it ∷ behind) behind
    unfolding behind next_v
    cut = g.rest ∙ ap (λ l. filter mined_holder? (next_v t l (drop j vs))) turn.list ∙ rw (drop-cons vs j 0 (omega (arith, long, g.count)), ← (add-one j), ← eV, sel_is)

    pub mine_room : sel ≡ true → m < length (mined_of s (records at n) t vs)
    mine_room u =
        let d : drop m L ≡ it ∷ behind = cut ∙ ap (λ b. cond b (it ∷ behind) behind) u in
        let l = ap length d in
        omega (arith, length-drop m L)

    row_is : {h : ℕ} → sel ≡ true → h ≡ height_f t v y.facts → MinedRow s (h, (left, i)) it
    unfolding bytes_at
    row_is u q =
        let d = id_here g.scan.within turn.is in
        let o = one_here s i (after_in_value false s i z) turn.item turn.here in
        let w = mine_seen in
        record {
          height = q ∙ after_height s i y t v within turn.item w (sym e ∙ u);
          id = d.0 ∙ sym (after_id s i y t v within turn.item w);
          within = omega (arith, d.1);
          bytes = ap (λ l. total (λ r. length (content r.body)) l) o.1 ∙ (let f : length (content turn.item.body) + 0 ≡ length (content turn.item.body) = omega arith in f) ∙ ap (λ x. length (content x)) (sym (after_body s i y t v within turn.item w));
          stands = (g.scan.within, o.0);
        }

    pub mine_go : {w : Ranked} {o r : ℕ} {b' : List Ranked} → w.rank ≡ height_f t v y.facts → w.second ≡ left → w.place ≡ i → RankedAdded sel m w b r b' → o ≡ after_in_value false s i z → Mining s at n t vs room o (left - 1) (j + 1) r b'
    unfolding nothing_f behind
    mine_go {w} {o} {r} {b'} q k h y x =
        let sc : Scan (form_c false rec_c) nothing_f s n at tt o (left - 1) tt = rw x (on g.scan tt p turn refl) in
        let up : i ≤ o = omega (arith, turn.up) in
        let e : row_of w ≡ (w.rank, (left, i)) = rw (k, h) in
        cases sel
        (λ u.
        let a = y.yes u in
        let d : drop m L ≡ it ∷ behind = cut ∙ ap (λ b. cond b (it ∷ behind) behind) u in
        let f = mine_room u in
        let d2 = drop-cons L m it f in
        let g1 : get_or L m it ≡ it = cc in
        let g2 : drop (suc m) L ≡ behind = cc in
        let t1 : take (suc m) L ≡ take m L ++ (it ∷ []) = take-suc L m it f ∙ rw g1 in
        let fw = g.few in
        let t2 : table (take (suc m) b') ≡ table (take m b) ++ ((w.rank, (left, i)) ∷ []) = ap (λ (c : List Ranked). table (take (suc m) c)) a.1 ∙ ap table (take-suc-set b m w (omega (arith, g.size))) ∙ table_snoc (take m b) w ∙ ap (λ (c : Row). table (take m b) ++ (c ∷ [])) e in
        let r1 : r ≡ suc m = a.0 ∙ add-one m in
        rw r1 (record {
          count = omega (arith, g.count);
          scan = sc;
          size = y.size ∙ g.size;
          few = g.few;
          upto = omega arith;
          rest = g2 ∙ rw x;
          sofar = rw (t1, t2) (fall_snoc s (n + 1) (table (take m b)) (take m L) (w.rank, (left, i)) it g.sofar g.above (row_is u q) (omega (arith, g.scan.few)));
          above = rw t2 (all_snoc (table (take m b)) (w.rank, (left, i)) (left - 1) (all_more (table (take m b)) left (left - 1) (omega arith) g.above) (omega arith));
          stand = rw t2 (standing_snoc (table (take m b)) (w.rank, (left, i)) g.stand (below_more (table (take m b)) (omega arith) g.below));
          below = rw t2 (select.all_snoc (λ (c : Row). c.1.1 ≤ o) (table (take m b)) (w.rank, (left, i)) (below_more (table (take m b)) up g.below) up);
        }))
        (λ u.
        let a = y.no u in
        rw a.0 (record {
          count = omega (arith, g.count);
          scan = sc;
          size = y.size ∙ g.size;
          few = g.few;
          upto = g.upto;
          rest = cut ∙ ap (λ b. cond b (it ∷ behind) behind) u ∙ rw x;
          sofar = rw a.1 g.sofar;
          above = rw a.1 (all_more (table (take m b)) left (left - 1) (omega arith) g.above);
          stand = rw a.1 g.stand;
          below = rw a.1 (below_more (table (take m b)) up g.below);
        }))

pub mine_end : {s : Bytes} {at n : ℕ} {t : Bytes} {vs : List ℕ} {room i left j m : ℕ} {b : List Ranked} → Mining s at n t vs room i left j m b → left ≡ 0 → MinedGathered s n (mined_of s (records at n) t vs) room m b
unfolding next_v
mine_end {s} {at} {n} {t} {vs} {room} {i} {left} {j} {m} {b} g z =
    let L = mined_of s (records at n) t vs in
    let d : drop m L ≡ [] = g.rest ∙ ap (λ l. filter mined_holder? (next_v t l (drop j vs))) (none_left (form_c false rec_c) s left i z).0 in
    let l = ap length d in
    let u = g.upto in
    let e : m ≡ length L = omega (arith, length-drop m L) in
    record { size = g.size; all = e; listed = rw (take_all m L (omega arith)) at g.sofar; stand = g.stand }

-- ---- sorted rows are sorted records
below_not : (a b : Id) → below? a b ≡ true → below? b a ≡ false
below_not a b h = let e = eqb-true (cmp_l a b) 0 h in let f = (cmp_flip a b).0 in ne_eqb (cmp_l b a) 0 (λ g. let y : ⊥ = omega arith in y)

ahead_newer : (a b : Rec) (w v : Row) (s : Bytes) → MinedRow s w a → MinedRow s v b → v.1.0 < w.1.0 → below? a.id b.id ≡ true → ahead? w v ≡ newer? a b
unfolding ahead_of
ahead_newer a b w v s x y l h =
    rw (lt-leb w.1.0 v.1.0 l, below_not a.id b.id h, and_false (eqb w.0 v.0), and_false (eqb (mined_height a) (mined_height b)))
    (two x.height y.height)
  where
    two : {p p' q q' : ℕ} → p ≡ p' → q ≡ q' → (ltb q p || false) ≡ (ltb q' p' || false)
    two e f = cc

low_times : (s : Bytes) (b c : ℕ) (z : List Row) (l : List Rec) → b ≤ c → FallingRows s b z l → All (λ (v : Row). v.1.0 < c) z
low_times s b c [] l k h = tt
low_times s b c (w ∷ z) [] k h = absurd h
low_times s b c (w ∷ z) (r ∷ l) k h = let y = h.1 in (omega arith, low_times s w.1.0 c z l (omega arith) h.2)

insert_mined : (s : Bytes) (w : Row) (r : Rec) (z : List Row) (l : List Rec) → MinedRow s w r → MinedRows s z l → All (λ (v : Row). v.1.0 < w.1.0) z → All (λ x. below? r.id x.id ≡ true) l → MinedRows s (insert ahead? w z) (insert newer? r l)
insert_mined s w r [] [] k h a b = (k, tt)
insert_mined s w r [] (x ∷ l) k h a b = absurd h
insert_mined s w r (v ∷ z) [] k h a b = absurd h
insert_mined s w r (v ∷ z) (x ∷ l) k h a b = let e = ahead_newer r x w v s k h.0 a.0 b.0 in cases (newer? r x)
    (λ t. rw (e, t) (k, h))
    (λ t. rw (e, t) (h.0, insert_mined s w r z l k h.1 a.1 b.1))

pub sort_mined : (s : Bytes) (b : ℕ) (z : List Row) (l : List Rec) → FallingRows s b z l → Pairwise Before l → MinedRows s (sort ahead? z) (sort newer? l)
sort_mined s b [] [] h p = tt
sort_mined s b [] (x ∷ l) h p = absurd h
sort_mined s b (v ∷ z) [] h p = absurd h
sort_mined s b (v ∷ z) (x ∷ l) h p =
    insert_mined s v x (sort ahead? z) (sort newer? l) h.0 (sort_mined s v.1.0 z l h.2 p.1)
    (sort_all ahead? (λ (y : Row). y.1.0 < v.1.0) z (low_times s v.1.0 v.1.0 z l (omega arith) h.2))
    (sort_all newer? (λ y. below? x.id y.id ≡ true) l p.0)

pub mined_placed : (s : Bytes) (z : List Row) (l : List Rec) → MinedRows s z l → All (λ p. p + 33 ≤ length s) (map (λ (w : Row). w.1.1) z)
mined_placed s [] l h = tt
mined_placed s (v ∷ z) [] h = absurd h
mined_placed s (v ∷ z) (x ∷ l) h = (h.0.within, mined_placed s z l h.1)

-- ---- the walk
module _ (m : Limits) (height window : ℕ) (s : Bytes) where
  pub walk_ids : (seen bytes : ℕ) (z : List Row) (l : List Rec) → MinedRows s z l → map (id_at s) (walk_r m height window s seen bytes z) ≡ releases m height window seen bytes l
  unfolding walk_r releases
  walk_ids seen bytes [] [] h = refl
  walk_ids seen bytes [] (x ∷ l) h = absurd h
  walk_ids seen bytes (v ∷ z) [] h = absurd h
  walk_ids seen bytes (v ∷ z) (x ∷ l) h =
      let i = walk_ids (seen + 1) (bytes + length (content x.body)) z l h.1 in
      let e = h.0.height in let f = h.0.bytes in
      rw (e, f) (cases (leb window (height - mined_height x) || (leb m.P seen || ltb m.B (bytes + length (content x.body))))
      (λ t. rw t (cons_same h.0.id i))
      (λ t. rw t i))

pub bytes_is : (s : Bytes) (p : ℕ) {z : ℕ} {y : Seen} → RecStands s p → FoundRec false s p z y → (y.facts.bytes ≡ bytes_at s p) × (y.facts.bytes < 4294967296)
unfolding bytes_at facts_of nothing_f
bytes_is s p {z} {y} w rd =
    let g = start (form_c false rec_c) nothing_f s 1 p tt w.0 w.1 in
    let t = seen false g (omega arith) rd in
    let o = one_here s p (after_in_value false s p z) t.item t.here in
    let e : length (content t.item.body) + 0 ≡ length (content t.item.body) = omega arith in
    (ap (λ f. f.bytes) t.is.0.facts ∙ sym e ∙ sym (ap (λ l. total (λ r. length (content r.body)) l) o.1), t.is.0.small.bytes)

-- a row of the table
pub row_stands : (s : Bytes) (z : List Ranked) (j : ℕ) (d : Ranked) → All (λ (w : Row). RecStands s w.1.1) (map row_of z) → j < length z → RecStands s (get_or z j d).place
row_stands s [] j d h k = absurd (let y : ⊥ = omega arith in y)
row_stands s (w ∷ z) zero d h k = h.0
row_stands s (w ∷ z) (suc j) d h k = row_stands s z j d h.1 (le_of_suc-le-suc k)

module _ (m : Limits) (height window : ℕ) (s : Bytes) (z : List Ranked) where
  pub record Walking (len : ℕ) (rel : List ℕ) (j g sum : ℕ) : Type 0 where
    pub within : j ≤ length z
    pub fewer : g ≤ j
    pub size : length rel ≡ len
    pub small : sum ≤ j * 4294967295
    pub same : take g rel ++ walk_r m height window s j sum (table (drop j z)) ≡ walk_r m height window s 0 0 (table z)

  pub walk_start : (rel : List ℕ) → Walking (length rel) rel 0 0 0
  walk_start rel = record { within = omega arith; fewer = omega arith; size = refl; small = omega arith; same = refl }

  module _ {len : ℕ} {rel : List ℕ} {j g sum : ℕ} (d : Ranked) (x : Walking len rel j g sum) (h : j < length z) where
    abbrev row : Ranked
    row = get_or z j d

    turn_is : table (drop j z) ≡ row_of row ∷ table (drop (suc j) z)
    turn_is = ap table (drop-cons z j d h)

    module _ {u : Bool} (e : u ≡ (leb window (height - row.rank) || (leb m.P j || ltb m.B (sum + bytes_at s row.place)))) (low : bytes_at s row.place < 4294967296) where
      abbrev on_walk : List ℕ
      on_walk = walk_r m height window s (j + 1) (sum + bytes_at s row.place) (table (drop (j + 1) z))

      taken : u ≡ true → walk_r m height window s j sum (table (drop j z)) ≡ row.place ∷ on_walk
      unfolding walk_r
      taken t = ap (walk_r m height window s j sum) turn_is ∙ rw (sym e ∙ t, add-one j)

      left_in : u ≡ false → walk_r m height window s j sum (table (drop j z)) ≡ on_walk
      unfolding walk_r
      left_in t = ap (walk_r m height window s j sum) turn_is ∙ rw (sym e ∙ t, add-one j)

      walk_out : u ≡ true → length z ≤ len → Walking len (set rel g row.place) (j + 1) (g + 1) (sum + bytes_at s row.place)
      walk_out t room = record {
        within = omega arith;
        fewer = omega (arith, x.fewer);
        size = length-set rel g row.place ∙ x.size;
        small = omega (arith, x.small);
        same = ap (λ l. l ++ on_walk) (ap (λ k. take k (set rel g row.place)) (add-one g) ∙ take-suc-set rel g row.place (omega (arith, x.size, x.fewer)))
            ∙ append_assoc (take g rel) (row.place ∷ []) on_walk ∙ ap (λ l. take g rel ++ l) (sym (taken t)) ∙ x.same;
      }

      walk_in : u ≡ false → Walking len rel (j + 1) g (sum + bytes_at s row.place)
      walk_in t = record {
        within = omega arith;
        fewer = omega (arith, x.fewer);
        size = x.size;
        small = omega (arith, x.small);
        same = ap (λ l. take g rel ++ l) (sym (left_in t)) ∙ x.same;
      }

      walked : {g' : ℕ} {rel' : List ℕ} → length z ≤ len → PlaceAdded u g row.place rel g' rel' → Walking len rel' (j + 1) g' (sum + bytes_at s row.place)
      walked room y = cases u
          (λ t. let z = y.yes t in rw (z.0, z.1) (walk_out t room))
          (λ t. let z = y.no t in rw (z.0, z.1) (walk_in t))

    pub walk_go : {u : Bool} {n g' : ℕ} {rel' : List ℕ} → n ≡ bytes_at s row.place → n < 4294967296 → u ≡ (leb window (height - row.rank) || (leb m.P j || ltb m.B (sum + n))) → length z ≤ len → PlaceAdded u g row.place rel g' rel' → Walking len rel' (j + 1) g' (sum + n)
    walk_go {n = n} q l e room y =
        rw q (walked (e ∙ ap (λ k. leb window (height - row.rank) || (leb m.P j || ltb m.B (sum + k))) q) (omega arith) room y)

  pub walk_end : {len : ℕ} {rel : List ℕ} {j g sum : ℕ} → Walking len rel j g sum → length z ≤ j → (g ≤ length z) × (take g rel ≡ walk_r m height window s 0 0 (table z))
  unfolding walk_r
  walk_end {len} {rel} {j} {g} {sum} x h =
      let e : table (drop j z) ≡ [] = ap table (drop_of_length-le z {i = j} h) in
      (omega (arith, x.within, x.fewer), sym (append-nil (take g rel)) ∙ sym (ap (λ l. take g rel ++ walk_r m height window s j sum l) e) ∙ x.same)

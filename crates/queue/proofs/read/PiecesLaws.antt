-- The reading calls that write a piece for each record that passes. Assumes nothing.
use Rattle.std.specs.Prelude.{◌≡◌, refl, Bool, true, false, cond, List, [], ◌∷◌, ◌++◌, ℕ, ◌+◌, ◌-◌, ◌*◌, ◌^◌, ◌≤◌, ◌<◌, length, take, drop}
use Rattle.std.proofs.Common.{ap, sym, ◌∙◌, arith, length-append, length-drop, length-take-le}
use Rattle.std.proofs.Math.Option.{Option, none, some}
use Rattle.queue.specs.Basics.{join_same}
use Rattle.queue.specs.Codec as codec
use Rattle.queue.specs.Codec.{cases}
use Rattle.queue.specs.bytes.PutAs.{Put, be_last}
use Rattle.queue.specs.layout.FrameCodec.{rec_c}
use Rattle.queue.specs.bytes.ReaderAs.{whole, list_at}
use Rattle.queue.specs.bytes.ReaderLaws.{Turn, none_left}
use Rattle.queue.specs.bytes.ViewAs.{view}
use Rattle.queue.specs.layout.FormsCodec.{form_c, after_in_value, turn_in}
use Rattle.queue.specs.Areas.{read_area}
use Rattle.std.specs.Prelude as std
use Rattle.queue.specs.layout.FrameAs.{facts_of, mined_at}
use Rattle.queue.specs.check.AreaAs.{AreaIn}
use Rattle.queue.specs.read.PiecesAs.{passes_f, passes?, piece_of, part_of, pieces_of, answer_bytes, told_pieces, due_at, piece_at, piece_len_value, PieceIn, MeasureAs}
use Rattle.queue.specs.paper.Records.{Bytes, Id, Rec, Queue}
use Rattle.queue.specs.paper.Lists.{is_some, one, count, filter, map, concat, maybe}
use Rattle.queue.specs.paper.Area.{place_bytes}
use Rattle.queue.specs.paper.Sound.{holder?, mined?}
use Rattle.queue.specs.paper.Changing.{due?}
use Rattle.queue.specs.paper.Reading as reading
use Rattle.queue.specs.Checked.{written}
use Rattle.queue.specs.paper.Calls.{counted, entry_bytes, ids_bytes, placed_bytes, due_bytes, told_out, read_of}
use Rattle.queue.specs.declared.Kind.TheVariants.{Nothing}
use Rattle.queue.specs.paper.Answer.{Refused, Done}
use Rattle.queue.specs.declared.layout.frame.Time.{Time}
use Rattle.queue.specs.declared.layout.frame.Height.{Height}
use Rattle.queue.specs.declared.layout.frame.Seen.{Seen}
use Rattle.queue.specs.declared.check.area.Area.{Area}
use Rattle.queue.specs.declared.read.pieces.What.{What}
use Rattle.queue.specs.declared.read.pieces.What.TheVariants.{Ids, Guarded, DueBy, Confirmed, Entries}
use Rattle.queue.specs.declared.read.pieces.Sizes.{Sizes}
use Rattle.queue.proofs.bytes.PutLaws.{then, recast, kept, Left, begun, onward, done, nothing}
use Rattle.queue.proofs.bytes.PutByteLaws.{be_same}
use Rattle.queue.proofs.read.ReadingLaws.{id_here, state_here, place_here, entry_in_law, entry_is, entry_size, due_facts, told_4, told_100}
use Rattle.queue.proofs.layout.TurnLaws.{Scan, start, on, end, SeenIn, FoundRec, seen, see}

-- ---- one piece
module _ {s : Bytes} {base m : ℕ} {y : Seen} {r : Rec} (h : base ≤ length s) (x : SeenIn false s base m y r) where
  pub piece_in : PieceIn s base y
  piece_in = record { id = (id_here h x).1; up = (place_here h x).0; entry = entry_in_law h x }

  pub piece_is : (w : What) → piece_at w s base y ≡ piece_of w r
  unfolding piece_at piece_of due_at
  piece_is Ids = (id_here h x).0
  piece_is Guarded = (id_here h x).0
  piece_is (DueBy t u) = join_same (id_here h x).0 (state_here h x)
  piece_is Confirmed = join_same (id_here h x).0 (place_here h x).1
  piece_is Entries = entry_is h x

  pub piece_size : (w : What) → length (piece_at w s base y) ≡ piece_len_value w y
  unfolding piece_at piece_len_value due_at
  piece_size Ids = length-take-le 32 (drop (base + 1) s) (omega (arith, length-drop (base + 1) s, (id_here h x).1))
  piece_size Guarded = length-take-le 32 (drop (base + 1) s) (omega (arith, length-drop (base + 1) s, (id_here h x).1))
  piece_size (DueBy t u) =
      let a = length-take-le 32 (drop (base + 1) s) (omega (arith, length-drop (base + 1) s, (id_here h x).1)) in
      let b = length-take-le 1 (drop (base + 34) s) (omega (arith, length-drop (base + 34) s, (id_here h x).1)) in
      length-append (take 32 (drop (base + 1) s)) (take 1 (drop (base + 34) s)) ∙ omega arith
  piece_size Confirmed =
      let i = entry_in_law h x in
      let a = length-take-le 32 (drop (base + 1) s) (omega (arith, length-drop (base + 1) s, (id_here h x).1)) in
      let b = length-take-le (y.mark - y.after - 1) (drop (base + y.after + 1) s) (omega (arith, length-drop (base + y.after + 1) s, i.within, (place_here h x).0)) in
      length-append (take 32 (drop (base + 1) s)) (take (y.mark - y.after - 1) (drop (base + y.after + 1) s)) ∙ omega arith
  piece_size Entries = ap length (entry_is h x) ∙ entry_size h x

  pub part_is : (w : What) → cond (passes_f w y.facts) (piece_at w s base y) [] ≡ part_of w r
  part_is w = ap (λ f. cond (passes_f w f) (piece_at w s base y) []) x.0.facts ∙ ap (λ l. cond (passes_f w (facts_of r)) l []) (piece_is w)

  pub part_size : (w : What) → length (part_of w r) ≡ cond (passes_f w y.facts) (piece_len_value w y) 0
  part_size w = ap length (sym (part_is w)) ∙ cases (passes_f w y.facts) (λ t. rw t (piece_size w)) (λ t. rw t)

-- ---- the measure
abbrev pub Two : Type 0
Two = ℕ × ℕ

unfoldable pub measure_f : What → Two → List Rec → Two
measure_f w a l = (a.0 + count (passes? w) l, a.1 + length (pieces_of w l))

pub record Measuring (w : What) (s : Bytes) (n at i left c z : ℕ) : Type 0 where
  pub scan : Scan (form_c false rec_c) (measure_f w) s n at (0, 0) i left (c, z)
  pub few : c + left ≤ n
  pub most : z + left * 4294967295 ≤ n * 4294967295

pub measure_start : (w : What) (s : Bytes) (n at : ℕ) → at ≤ length s → whole (form_c false rec_c) n s at ≡ true → Measuring w s n at at n 0 0
measure_start w s n at h k = record { scan = start (form_c false rec_c) (measure_f w) s n at (0, 0) h k; few = omega arith; most = omega arith }

module _ {w : What} {s : Bytes} {n at i left c z : ℕ} (g : Measuring w s n at i left c z) (p : 0 < left) {m : ℕ} {y : Seen} (rd : FoundRec false s i m y) where
  pub measure_in : PieceIn s i y
  measure_in = piece_in g.scan.within (seen false g.scan p rd).is

  pub measure_within : m ≤ length (view false s i)
  measure_within = (seen false g.scan p rd).is.1.within

  pub measure_go : {j k o v : ℕ} {b : Bool} → b ≡ passes_f w y.facts → k ≡ one b → v ≡ piece_len_value w y → v < 4294967296 → o ≡ cond b v 0 → j ≡ after_in_value false s i m → Measuring w s n at j (left - 1) (c + k) (z + o)
  unfolding measure_f pieces_of
  measure_go {j} {k} {o} {v} {b} e f q lt d u =
      let t = see false g.scan p rd u in
      let ps : passes? w t.item ≡ b = ap (passes_f w) (sym t.is.0.facts) ∙ sym e in
      let sz : length (part_of w t.item) ≡ o = part_size g.scan.within t.is w ∙ sz_is e q d in
      let kn : one (passes? w t.item) ≡ k = ap one ps ∙ sym f in
      let L = list_at (form_c false rec_c) (left - 1) s j in
      let e1 : c + (one (passes? w t.item) + count (passes? w) L) ≡ c + k + count (passes? w) L = omega arith in
      let e2 : z + length (part_of w t.item ++ pieces_of w L) ≡ z + o + length (pieces_of w L) = rw length-append (omega arith) in
      record {
        scan = on g.scan (c + k, z + o) p t (both e1 e2);
        few = omega (arith, g.few, one_most b);
        most = omega (arith, g.most, o_most b);
      }
    where
      sz_is : b ≡ passes_f w y.facts → v ≡ piece_len_value w y → o ≡ cond b v 0 → cond (passes_f w y.facts) (piece_len_value w y) 0 ≡ o
      sz_is e q d = ap (λ t. cond t (piece_len_value w y) 0) (sym e) ∙ ap (λ n. cond b n 0) (sym q) ∙ sym d

      both : {a a' b b' : ℕ} → a ≡ a' → b ≡ b' → ◌≡◌ {A = Two} (a, b) (a', b')
      both p q = cc

      one_most : (b : Bool) → one b ≤ 1
      one_most true = omega arith
      one_most false = omega arith

      o_most : (b : Bool) → cond b v 0 ≤ 4294967295
      o_most true = omega arith
      o_most false = omega arith

pub measure_end : {w : What} {s : Bytes} {n at i left c z : ℕ} → Measuring w s n at i left c z → left ≡ 0 → MeasureAs w (list_at (form_c false rec_c) n s at) n (record { count = c; size = z })
unfolding measure_f pieces_of
measure_end {w} {s} {n} {at} {i} {left} {c} {z} g e =
    let q = end g.scan e in
    let q0 = ap (λ (t : Two). t.0) q in
    let q1 = ap (λ (t : Two). t.1) q in
    record { count = omega arith; size = omega arith; few = omega (arith, g.few); most = omega (arith, g.most) }

-- ---- the pieces
pub record Writing (w : What) (s : Bytes) (n from : ℕ) (d₀ : Bytes) (at i left : ℕ) (d : Bytes) (o : ℕ) : Type 0 where
  pub within : i ≤ length s
  pub all : whole (form_c false rec_c) left s i ≡ true
  pub todo : Left d₀ at (pieces_of w (list_at (form_c false rec_c) n s from)) d o (pieces_of w (list_at (form_c false rec_c) left s i))
  pub len : length d ≡ length d₀

pub writing_start : (w : What) {s : Bytes} {n from : ℕ} (d : Bytes) (at : ℕ) → from ≤ length s → whole (form_c false rec_c) n s from ≡ true → Writing w s n from d at from n d at
writing_start w {s} {n} {from} d at h k = record { within = h; all = k; todo = begun d at (pieces_of w (list_at (form_c false rec_c) n s from)); len = refl }

module _ {w : What} {s : Bytes} {n from : ℕ} {d₀ : Bytes} {at i left : ℕ} {d : Bytes} {o : ℕ} (g : Writing w s n from d₀ at i left d o) (p : 0 < left) {m : ℕ} {y : Seen} (rd : FoundRec false s i m y) where
  the_turn : Turn (form_c false rec_c) s left i (after_in_value false s i m) (SeenIn false s i m y)
  the_turn = turn_in false left g.within g.all p rd

  pub writing_in : PieceIn s i y
  writing_in = piece_in g.within the_turn.is

  pub writing_within : m ≤ length (view false s i)
  writing_within = the_turn.is.1.within

  cut : pieces_of w (list_at (form_c false rec_c) left s i) ≡ part_of w the_turn.item ++ pieces_of w (list_at (form_c false rec_c) (left - 1) s (after_in_value false s i m))
  unfolding pieces_of
  cut = ap (pieces_of w) the_turn.list

  pub writing_room : at + length (pieces_of w (list_at (form_c false rec_c) n s from)) ≤ length d₀ → o + cond (passes_f w y.facts) (piece_len_value w y) 0 ≤ length d
  writing_room r =
      let q = g.todo.pos in
      let a = ap length cut ∙ length-append (part_of w the_turn.item) (pieces_of w (list_at (form_c false rec_c) (left - 1) s (after_in_value false s i m))) in
      let b = part_size g.within the_turn.is w in
      omega (arith, g.len)

  pub writing_go : {j r : ℕ} {d' : Bytes} → j ≡ after_in_value false s i m → Put d o (cond (passes_f w y.facts) (piece_at w s i y) []) (cond (passes_f w y.facts) (piece_len_value w y) 0) r d' → Writing w s n from d₀ at j (left - 1) d' r
  writing_go {j} {r} {d'} u x =
      let f : Left d₀ at (pieces_of w (list_at (form_c false rec_c) n s from)) d o (part_of w the_turn.item ++ pieces_of w (list_at (form_c false rec_c) (left - 1) s (after_in_value false s i m))) = rw cut at g.todo in
      rw u (record {
        within = the_turn.within;
        all = the_turn.rest;
        todo = onward f (recast x (part_is g.within the_turn.is w) refl refl);
        len = kept x ∙ g.len;
      })

pub writing_end : {w : What} {s : Bytes} {n from : ℕ} {d₀ : Bytes} {at i left : ℕ} {d : Bytes} {o : ℕ} → Writing w s n from d₀ at i left d o → left ≡ 0 → Put d₀ at (pieces_of w (list_at (form_c false rec_c) n s from)) (length (pieces_of w (list_at (form_c false rec_c) n s from))) o d
unfolding pieces_of
writing_end {w} {s} {n} {from} {d₀} {at} {i} {left} {d} {o} g e =
    let z : pieces_of w (list_at (form_c false rec_c) left s i) ≡ [] = ap (pieces_of w) (none_left (form_c false rec_c) s left i e).0 in
    let f : Left d₀ at (pieces_of w (list_at (form_c false rec_c) n s from)) d o [] = rw z at g.todo in
    done f

-- ---- the answer
pub told_3 : (w : What) (s out : Bytes) → read_area s ≡ none → written (Refused 3) out ≡ told_pieces w s out
unfolding told_pieces read_of
told_3 w s out e = rw e

module _ (w : What) (s out : Bytes) {x : Area} (a : AreaIn s x) where
  module _ {m : Sizes} (k : MeasureAs w (list_at (form_c false rec_c) x.open.head.count s x.open.start) x.open.head.count m) where
    bytes_is : told_pieces w s out ≡ told_out (answer_bytes w (list_at (form_c false rec_c) x.open.head.count s x.open.start)) out
    unfolding told_pieces read_of
    bytes_is = rw (a.is, a.read.store.list)

    size_is : length (answer_bytes w (list_at (form_c false rec_c) x.open.head.count s x.open.start)) ≡ 4 + m.size
    unfolding answer_bytes
    size_is = let L = list_at (form_c false rec_c) x.open.head.count s x.open.start in length-append (codec.be 4 (count (passes? w) L)) (pieces_of w L) ∙ omega (arith, codec.be_length 4 (count (passes? w) L), k.size)

    pub answer_4 : length out < 4 + m.size → written (Refused 4) out ≡ told_pieces w s out
    answer_4 h = sym (bytes_is ∙ told_4 (answer_bytes w (list_at (form_c false rec_c) x.open.head.count s x.open.start)) out (omega (arith, size_is)))

    pub answer_100 : {out₁ out' : Bytes} {r r' : ℕ} → 4 + m.size ≤ length out → Put out 0 (be_last 4 m.count) 4 r out₁
        → Put out₁ r (pieces_of w (list_at (form_c false rec_c) x.open.head.count s x.open.start)) (length (pieces_of w (list_at (form_c false rec_c) x.open.head.count s x.open.start))) r' out'
        → written (Done Nothing) out' ≡ told_pieces w s out
    unfolding answer_bytes
    answer_100 h p q =
        let c : m.count < 256 ^ 4 = let z = a.read.store.head.count_small in let y = k.few in omega arith in
        let L = list_at (form_c false rec_c) x.open.head.count s x.open.start in
        let e : be_last 4 m.count ++ pieces_of w L ≡ answer_bytes w L = ap (λ (b : Bytes). b ++ pieces_of w L) (be_same 4 m.count c ∙ ap (codec.be 4) k.count) in
        sym (bytes_is ∙ told_100 (recast (then p q) e refl refl) (omega (arith, k.size)))

-- ---- each call's definition
reads_same : (f g : Queue → Bytes) (s out : Bytes) → ((q : Queue) → f q ≡ g q) → read_of f s out ≡ read_of g s out
unfolding read_of
reads_same f g s out h = go (read_area s) refl
  where
    go : (o : Option Queue) → read_area s ≡ o → read_of f s out ≡ read_of g s out
    go none e = rw e
    go (some q) e = rw e (ap (λ b. told_out b out) (h q))

glue : {n m : ℕ} {b c : Bytes} → n ≡ m → b ≡ c → codec.be 4 n ++ b ≡ codec.be 4 m ++ c
glue {n} {m} {b} {c} p q = ap (λ k. codec.be 4 k ++ b) p ∙ ap (λ l. codec.be 4 m ++ l) q

ids_each : (l : List Rec) → (count (passes? Ids) l ≡ length (map (λ r. r.id) l)) × (pieces_of Ids l ≡ concat (map (λ r. r.id) l))
unfolding passes_f piece_of pieces_of
ids_each [] = (refl, refl)
ids_each (r ∷ l) = let i = ids_each l in (omega (arith, i.0), ap (λ b. r.id ++ b) i.1)

pub ids_told : (s out : Bytes) → told_pieces Ids s out ≡ read_of (λ q. ids_bytes (reading.record_ids_value q)) s out
unfolding told_pieces answer_bytes ids_bytes
ids_told s out = reads_same (λ q. answer_bytes Ids q.recs) (λ q. ids_bytes (reading.record_ids_value q)) s out (λ q. let i = ids_each q.recs in glue i.0 i.1)

pub guarded_each : (l : List Rec) → (count (passes? Guarded) l ≡ length (map (λ r. r.id) (filter holder? l))) × (pieces_of Guarded l ≡ concat (map (λ r. r.id) (filter holder? l)))
unfolding passes_f piece_of pieces_of facts_of
guarded_each [] = (refl, refl)
guarded_each (r ∷ l) = let i = guarded_each l in cases (holder? r)
    (λ t. rw t (omega (arith, i.0), ap (λ b. r.id ++ b) i.1))
    (λ t. rw t (omega (arith, i.0), i.1))

pub guarded_told : (s out : Bytes) → told_pieces Guarded s out ≡ read_of (λ q. ids_bytes (reading.guarded_ids_value q)) s out
unfolding told_pieces answer_bytes ids_bytes reading.guarded_ids_value
guarded_told s out = reads_same (λ q. answer_bytes Guarded q.recs) (λ q. ids_bytes (reading.guarded_ids_value q)) s out (λ q. let i = guarded_each q.recs in glue i.0 i.1)

abbrev due_list : Time → Height → List Rec → List (Id × ℕ)
due_list t h l = map (λ r. (r.id, r.state)) (filter (due? t.0 h.0) l)

due_each : (t : Time) (h : Height) (l : List Rec) → (count (passes? (DueBy t h)) l ≡ length (due_list t h l)) × (pieces_of (DueBy t h) l ≡ concat (map (λ x. x.0 ++ codec.be 1 x.1) (due_list t h l)))
unfolding passes_f piece_of pieces_of
due_each t h [] = (refl, refl)
due_each t h (r ∷ l) = let i = due_each t h l in let e = due_facts t.0 h.0 r in cases (due? t.0 h.0 r)
    (λ k. rw (e, k) (omega (arith, i.0), ap (λ b. (r.id ++ codec.be 1 r.state) ++ b) i.1))
    (λ k. rw (e, k) (omega (arith, i.0), i.1))

pub due_told : (t : Time) (h : Height) (s out : Bytes) → told_pieces (DueBy t h) s out ≡ read_of (λ q. counted due_bytes (reading.due_states t.0 h.0 q)) s out
unfolding told_pieces answer_bytes reading.due_states
due_told t h s out = reads_same (λ q. answer_bytes (DueBy t h) q.recs) (λ q. counted due_bytes (reading.due_states t.0 h.0 q)) s out
    (λ q. let i = due_each t h q.recs in glue i.0 i.1)

abbrev conf_list : List Rec → List (Id × (ℕ × Id))
conf_list l = concat (map (λ r. maybe [] (λ p. (r.id, p) ∷ []) r.place) (filter mined? l))

conf_one : (i : Id) (o : Option (ℕ × Id)) (n : ℕ) (b : Bytes) (l : List (Id × (ℕ × Id))) → n ≡ length l → b ≡ concat (map placed_bytes l)
    → (one (is_some o) + n ≡ length (maybe [] (λ p. (i, p) ∷ []) o ++ l)) × (cond (is_some o) (i ++ drop 1 (place_bytes o)) [] ++ b ≡ concat (map placed_bytes (maybe [] (λ p. (i, p) ∷ []) o ++ l)))
unfolding place_bytes
conf_one i none n b l e f = (omega arith, f)
conf_one i (some p) n b l e f = (omega arith, ap (λ y. (i ++ (codec.be 4 p.0 ++ p.1)) ++ y) f)

mined_some : (o : Option (ℕ × Id)) → std.is_some (mined_at o) ≡ is_some o
mined_some none = refl
mined_some (some p) = refl

conf_each : (l : List Rec) → (count (passes? Confirmed) l ≡ length (conf_list l)) × (pieces_of Confirmed l ≡ concat (map placed_bytes (conf_list l)))
unfolding passes_f piece_of pieces_of facts_of
conf_each [] = (refl, refl)
conf_each (r ∷ l) = let i = conf_each l in cases (mined? r)
    (λ t. rw (mined_some r.place, t) (conf_one r.id r.place (count (passes? Confirmed) l) (pieces_of Confirmed l) (conf_list l) i.0 i.1))
    (λ t. rw t (omega (arith, i.0), i.1))

pub conf_told : (s out : Bytes) → told_pieces Confirmed s out ≡ read_of (λ q. counted placed_bytes (reading.confirmations q)) s out
unfolding told_pieces answer_bytes reading.confirmations
conf_told s out = reads_same (λ q. answer_bytes Confirmed q.recs) (λ q. counted placed_bytes (reading.confirmations q)) s out
    (λ q. let i = conf_each q.recs in glue i.0 i.1)

entries_each : (l : List Rec) → (count (passes? Entries) l ≡ length l) × (pieces_of Entries l ≡ concat (map entry_bytes l))
unfolding passes_f piece_of pieces_of
entries_each [] = (refl, refl)
entries_each (r ∷ l) = let i = entries_each l in (omega (arith, i.0), ap (λ b. entry_bytes r ++ b) i.1)

pub entries_told : (s out : Bytes) → told_pieces Entries s out ≡ read_of (λ q. counted entry_bytes q.recs) s out
unfolding told_pieces answer_bytes
entries_told s out = reads_same (λ q. answer_bytes Entries q.recs) (λ q. counted entry_bytes q.recs) s out (λ q. let i = entries_each q.recs in glue i.0 i.1)

-- ---- a piece if its record passes
pub add_room : (w : What) (y : Seen) {b : Bool} (at n : ℕ) → b ≡ passes_f w y.facts → b ≡ true → at + cond (passes_f w y.facts) (piece_len_value w y) 0 ≤ n → at + piece_len_value w y ≤ n
add_room w y at n e t h = let z : passes_f w y.facts ≡ true = sym e ∙ t in rw z at h

pub add_yes : (w : What) (s : Bytes) (base : ℕ) (y : Seen) {b : Bool} {d d' : Bytes} {at r : ℕ} → b ≡ passes_f w y.facts → b ≡ true → Put d at (piece_at w s base y) (piece_len_value w y) r d' → Put d at (cond (passes_f w y.facts) (piece_at w s base y) []) (cond (passes_f w y.facts) (piece_len_value w y) 0) r d'
add_yes w s base y e t p = let z : passes_f w y.facts ≡ true = sym e ∙ t in rw z p

pub add_no : (w : What) (s : Bytes) (base : ℕ) (y : Seen) {b : Bool} → b ≡ passes_f w y.facts → b ≡ false → (d : Bytes) (at : ℕ) → Put d at (cond (passes_f w y.facts) (piece_at w s base y) []) (cond (passes_f w y.facts) (piece_len_value w y) 0) at d
add_no w s base y e t d at = let z : passes_f w y.facts ≡ false = sym e ∙ t in rw z (nothing d at)

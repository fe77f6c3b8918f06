-- What `signed_part` names is a record's signed bytes, where they stand in the area.
use Rattle.std.specs.Prelude.{◌≡◌, refl, List, [], ◌∷◌, ◌++◌, ℕ, ◌+◌, ◌-◌, length, take, drop, replicate}
use Rattle.std.proofs.Common.{ap, sym, ◌∙◌, append_assoc, arith, length-append, take_at, drop_at}
use Rattle.std.proofs.Math.Option.{Option, none, some}
use Rattle.queue.specs.Codec.{be, be_length, cases}
use Rattle.queue.specs.Areas.{read_area}
use Rattle.queue.specs.theorems.Bound.{reads_area}
use Rattle.queue.specs.read.ReadingAs.{part_in}
use Rattle.queue.specs.paper.Records.{Bytes, Id, Held, Rec, Queue}
use Rattle.queue.specs.paper.Lists.{find, map, concat}
use Rattle.queue.specs.paper.Sound.{need}
use Rattle.queue.specs.paper.Area.{flagged, terms_bytes, place_bytes, held_under, held_bytes, id_list_bytes, rec_under, rec_bytes, head_bytes, queue_bytes, area_bytes}
use Rattle.queue.specs.paper.Changing.{named?}
use Rattle.queue.specs.paper.Calls.{end_of, signed_part}

-- x ends with b
record Ends (x b : Bytes) : Type 0 where
  lead : Bytes
  is : x ≡ lead ++ b

behind : {x b : Bytes} (a : Bytes) → Ends x b → Ends (a ++ x) b
behind {x} {b} a e = record { lead = a ++ e.lead; is = ap (λ (y : Bytes). a ++ y) e.is ∙ sym (append_assoc a e.lead b) }

held_ends : (h : Held) → Ends (held_bytes h) h.bytes
unfolding held_under
held_ends h = behind (id_list_bytes h.ins) (behind (id_list_bytes h.outs) (behind (id_list_bytes h.reads) (behind (be 4 (length h.bytes)) (record { lead = []; is = refl }))))

body_ends : (o : Option Held) (h : Held) → o ≡ some h → Ends (flagged held_bytes o) h.bytes
body_ends none h e = let z : ◌≡◌ {A = ℕ} 0 1 = cc in absurd (omega arith)
body_ends (some x) h e = let k : x ≡ h = cc in rw k (behind (1 ∷ []) (held_ends h))

rec_ends : (r : Rec) (h : Held) → r.body ≡ some h → Ends (rec_bytes r) h.bytes
unfolding rec_under
rec_ends r h e =
    behind (2 ∷ []) (behind r.id (behind (be 1 r.caller) (behind (be 1 r.state) (behind (be 1 r.reason) (behind (terms_bytes r.terms) (behind (place_bytes r.place) (behind (be 1 r.mark) (behind (be 8 r.finish) (body_ends r.body h e)))))))))

-- the frame of the first record of an id stands among the frames, and ends where `end_of` says
record Among (i : Id) (l : List Rec) (r : Rec) : Type 0 where
  front : Bytes
  back : Bytes
  is : concat (map rec_bytes l) ≡ front ++ (rec_bytes r ++ back)
  ends : length front + length (rec_bytes r) ≡ end_of i l

found_among : (i : Id) (l : List Rec) (r : Rec) → find (named? i) l ≡ some r → Among i l r
found_among i [] r e = let z : ◌≡◌ {A = ℕ} 0 1 = cc in absurd (omega arith)
found_among i (x ∷ l) r e = cases (named? i x)
    (λ t. let e' : some x ≡ some r = rw t at e in let k : x ≡ r = cc in record { front = []; back = concat (map rec_bytes l); is = rw k; ends = rw (t, k) (omega arith) })
    (λ t.
    let u = found_among i l r (rw t at e) in
    record {
      front = rec_bytes x ++ u.front;
      back = u.back;
      is = ap (λ (y : Bytes). rec_bytes x ++ y) u.is ∙ sym (append_assoc (rec_bytes x) u.front (rec_bytes r ++ u.back));
      ends = rw t (omega (arith, u.ends, length-append (rec_bytes x) u.front));
    })

pub signed_there : (s id : Bytes) (q : Queue) (r : Rec) (h : Held) → read_area s ≡ some q → find (named? id) q.recs ≡ some r → r.body ≡ some h
    → part_in s (signed_part id q h) ≡ h.bytes
unfolding signed_part area_bytes queue_bytes
signed_there s id q r h e f b =
    let a = found_among id q.recs r f in
    let k = rec_ends r h b in
    let later = drop (need q.limits) s in
    let zeros : Bytes = replicate (need q.limits - length (queue_bytes q)) 0 in
    let p = be 4 q.persisted in
    let d = head_bytes q in
    let m = k.lead in
    let before = p ++ (d ++ (a.front ++ m)) in
    let rest = a.back ++ (zeros ++ later) in
    let n = length-append p (d ++ (a.front ++ m)) in
    let n1 = length-append d (a.front ++ m) in
    let n2 = length-append a.front m in
    let n3 = ap length k.is ∙ length-append m h.bytes in
    let start : 4 + length d + end_of id q.recs - length h.bytes ≡ length before = omega (arith, n, n1, n2, n3, a.ends, be_length 4 q.persisted) in
    let whole : s ≡ ((p ++ (d ++ (a.front ++ ((m ++ h.bytes) ++ a.back)))) ++ zeros) ++ later =
    (reads_area s q e).1.1 ∙ ap (λ (y : Bytes). ((p ++ (d ++ y)) ++ zeros) ++ later) (a.is ∙ ap (λ (y : Bytes). a.front ++ (y ++ a.back)) k.is) in
    let is : s ≡ before ++ (h.bytes ++ rest) = whole ∙ simp append_assoc in
    ap (λ k. take (length h.bytes) (drop k s)) start ∙ ap (λ (y : Bytes). take (length h.bytes) (drop (length before) y)) is
    ∙ ap (take (length h.bytes)) (drop_at before (h.bytes ++ rest) (length before) refl) ∙ take_at h.bytes rest (length h.bytes) refl

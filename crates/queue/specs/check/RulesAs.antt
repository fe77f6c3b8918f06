-- The rules of document 01 on what was read of a record.
use Rattle.std.specs.Prelude.{Bool, false, cond, not, ◌&&◌, ◌||◌, List, ℕ, ltb, leb, eqb, Option, Some, None, is_some}
use Rattle.queue.specs.paper.Records.{Rec}
use Rattle.queue.specs.paper.Lists.{one, total}
use Rattle.queue.specs.paper.Sound.{pending?, held_right?, reason_right?, place_right?, mark_right?, finish_right?, sizes_right?, caller_right?}
use Rattle.queue.specs.layout.FrameAs.{facts_of}
use Rattle.queue.specs.declared.layout.frame.Facts.{Facts}
use Rattle.queue.specs.declared.layout.frame.Time.{Time}
use Rattle.queue.specs.declared.layout.frame.Height.{Height}
use Rattle.queue.specs.declared.check.rules.Query.{Query}
use Rattle.queue.specs.declared.check.rules.Query.TheVariants.{Holders, HeldBytes, MinedHolders, MinedBytes, Tombstones, Due, PendingOf}

-- a deadline that is reached
abbrev pub time_due : Option Time → ℕ → Bool
time_due None n = false
time_due (Some t) n = leb t.0 n

abbrev pub height_due : Option Height → ℕ → Bool
height_due None n = false
height_due (Some t) n = leb t.0 n

unfoldable pub right_f : ℕ → ℕ → Facts → Bool
right_f k c f =
    ((held_right? f.state f.holder && reason_right? f.state f.reason)
    && (place_right? f.state (is_some f.mined) && mark_right? f.state f.holder f.mark))
    && ((caller_right? f.caller && finish_right? c f.holder f.finish.0) && sizes_right? k f.label f.ins f.outs f.reads f.holder f.size f.bytes)

unfoldable pub due_f : ℕ → ℕ → Facts → Bool
due_f now height f = pending? f.state && (time_due f.due now || height_due f.due_height height)

unfoldable pub above_f : ℕ → Facts → Bool
above_f n f = not f.holder && ltb n f.finish.0

-- what a record counts for
unfoldable pub weight : Query → Facts → ℕ
weight Holders f = one f.holder
weight HeldBytes f = f.bytes
weight MinedHolders f = one (eqb f.state 2 && f.holder)
weight MinedBytes f = cond (eqb f.state 2) f.bytes 0
weight Tombstones f = one (not f.holder)
weight (Due t h) f = one (due_f t.0 h.0 f)
weight (PendingOf c) f = one (pending? f.state && eqb f.caller c)

unfoldable pub sum : Query → List Rec → ℕ
sum q l = total (λ r. weight q (facts_of r)) l

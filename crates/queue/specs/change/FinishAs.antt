-- Finishing and forgetting, as the code goes.
use Rattle.std.specs.Prelude.{◌≡◌, Bool, false, List, ℕ, ltb, leb, eqb}
use Rattle.queue.specs.Codec.{All}
use Rattle.queue.specs.check.RulesAs.{due_f}
use Rattle.queue.specs.paper.Records.{Id, Rec}
use Rattle.queue.specs.paper.Ids.{cmp_l}
use Rattle.queue.specs.paper.Sound.{holder?}
use Rattle.queue.specs.paper.Changing.{named?, due?, higher}
use Rattle.queue.specs.declared.layout.frame.Seen.{Seen}
use Rattle.queue.specs.declared.change.finish.Change.{Change}
use Rattle.queue.specs.declared.change.finish.Change.TheVariants.{Named, Due}

-- the records that a call finishes; the same of a record that was read
unfoldable pub picked : Change → Id → Rec → Bool
picked Named id r = named? id r
picked (Due t h) id r = due? t.0 h.0 r

unfoldable pub picked_s : Change → Id → Seen → Bool
picked_s Named id x = eqb (cmp_l id x.id) 1
picked_s (Due t h) id x = due_f t.0 h.0 x.facts

-- what those become: the row's number for it, the state and the reason
abbrev pub end_what : Change → ℕ
end_what Named = 5
end_what (Due t h) = 6

abbrev pub end_state : Change → ℕ
end_state Named = 4
end_state (Due t h) = 5

abbrev pub end_reason : Change → ℕ
end_reason Named = 1
end_reason (Due t h) = 2

-- floor parts the tombstones of l: those that stay have at least its number
abbrev pub Floors : ℕ → ℕ → List Rec → Type 0
Floors t floor l = All (λ r. holder? r ≡ false → ltb (higher r.finish l) t ≡ leb floor r.finish) l

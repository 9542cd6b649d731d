-- No question has a number that the closing line takes for another answer: 0, 40 or 41. Assumes nothing.
use mathlib.Core.Path.{◌≡◌, refl}
use mathlib.Core.List.{[], ◌∷◌}
use Rattle.job.specs.declared.questions.Question.{Question}
use Rattle.job.specs.declared.questions.Question.TheVariants.{Size, PairCount, TablesInOrder, ListingSteps, PipesWhole, NodesWhole, PipesJoin, SectionCount, PipeConstants, NodeKinds, NodeFigures, NodesMet, Friction, InitialState, Schedules, LentLengths, StepsInAll, LentState, ScheduleCounts, Chain, SettingRows, Trips}
use Rattle.job.specs.Refusals.{number}
use Rattle.listing_text.specs.Text.{ascii, decimal, printed}
use Rattle.listing_text.specs.Listing.{closing_text}

pub refused_line : (question : Question) → printed (ascii "refused") (decimal (number question) ∷ []) ≡ closing_text (number question) 0 0
unfolding closing_text
refused_line Size = refl
refused_line PairCount = refl
refused_line TablesInOrder = refl
refused_line ListingSteps = refl
refused_line PipesWhole = refl
refused_line NodesWhole = refl
refused_line PipesJoin = refl
refused_line SectionCount = refl
refused_line PipeConstants = refl
refused_line NodeKinds = refl
refused_line NodeFigures = refl
refused_line NodesMet = refl
refused_line Friction = refl
refused_line InitialState = refl
refused_line Schedules = refl
refused_line LentLengths = refl
refused_line StepsInAll = refl
refused_line LentState = refl
refused_line ScheduleCounts = refl
refused_line Chain = refl
refused_line SettingRows = refl
refused_line Trips = refl

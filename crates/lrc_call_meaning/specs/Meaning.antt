-- What the remembered calls of visits mean: which results of which calls may be remembered, and the cells that a call with
-- its result reaches.
use Rattle.std.specs.Prelude.{◌≡◌, List, [], Some}
use Rattle.std.specs.Option.{option_map_or}
use Rattle.lrc_meaning.specs.Grammar.{Grammar}
use Rattle.lrc_order_meaning.specs.declared.Partition.{Partition}
use Rattle.lrc_visit_meaning.specs.Values.{Call, Result}
use Rattle.lrc_visit_meaning.specs.Visits.{plain_visit}
use Rattle.lrc_visit_meaning.specs.Demand.{reach}
use Rattle.lrc_store.specs.Cells.{CellTree}
use Rattle.lrc_call_meaning.specs.Spelled.{IsSpelledCall, IsSpelledResult}
use Rattle.lrc_call_meaning.specs.Forms.{call_form, result_form}
use Rattle.lrc_call_meaning.specs.Decoding.{read_call, read_result}
use Rattle.lrc_call_meaning.specs.Reached.{cells_of}

module _ (g : Grammar) (partitions : List Partition) where
  -- The cells are those of a call, which is read off its cell, and of the result that the plain visit gives it; both are
  -- spelled.
  pub record Allows (call outcome : CellTree) : Type 0 where
    pub asked : Call
    pub result : Result
    pub spelled_call : IsSpelledCall asked
    pub spelled_result : IsSpelledResult result
    pub is_call : call ≡ call_form asked
    pub is_read : read_call call ≡ Some asked
    pub is_outcome : outcome ≡ result_form result
    pub is_result : plain_visit g partitions result.height asked ≡ Some result

  -- The cells of all that the call meets, as they are read off the cells of the call and of its result.
  unfoldable pub reached_by : CellTree → CellTree → List CellTree
  reached_by call outcome =
      option_map_or (λ c. option_map_or (λ (r : Result). cells_of (reach g partitions r.height c)) (read_result outcome) []) (read_call call) []

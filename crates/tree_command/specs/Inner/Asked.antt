-- The request in the code's options, as the definitions have it.
use Rattle.std.specs.Prelude.{◌==◌, ◌&&◌, not, Bool, List, Result, Ok, Err, codes, length, map, if◌then◌else◌}
use Rattle.clap.specs.Words.{Row, first_of}
use Rattle.file_tree.specs.Choices.{choice_view}
use Rattle.tree_format.specs.declared.mode.Ending.{Ending}
use Rattle.tree_format.specs.declared.mode.Ending.TheVariants.{Line, Null}
use Rattle.tree_words.specs.Line.{are_jobs_good, shard_given}
use Rattle.tree_command.specs.Line.{Request, Given, Selection, mode_asked, request_by}
use Rattle.tree_command.specs.declared.options.Given.{Given as GivenWords}
use Rattle.tree_command.specs.declared.options.TreeOptions.{TreeOptions}
use Rattle.tree_command.specs.declared.selection.Selection.{Selection as CodeSelection}
use Rattle.tree_command.specs.declared.usage.Usage.{Usage}

abbrev pub given_of : GivenWords → Given
given_of g = record {
  null = g.null;
  quiet = g.quiet;
  any_name = g.any_name;
  excluded = map (λ name. name.now) g.excluded.items;
  names = map (λ name. name.now) g.names.items;
}

abbrev pub request_of : TreeOptions → Request
request_of o = record { mode = o.mode; shard = o.shard; given = given_of o.given }

abbrev pub result_request : Result TreeOptions Usage → Result Request Usage
result_request (Ok o) = Ok (request_of o)
result_request (Err usage) = Err usage

-- the view of a part of the files
abbrev pub selection_view : CodeSelection → Selection
selection_view selection = record { shard = selection.shard; chosen = choice_view selection.choice }

-- names are to be read from standard input, and the line has names too
abbrev pub has_names_twice : Given → Bool
has_names_twice given = given.null && not (length given.names == 0)

abbrev pub ending_by : Bool → Ending
ending_by null = if null then Null else Line

abbrev pub request_with : List Row → Given → Result Request Usage
request_with rows given =
    request_by (mode_asked rows) (shard_given (first_of (codes "shard") rows)) (are_jobs_good rows) given

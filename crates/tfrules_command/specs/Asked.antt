-- The request in the options of a call, in the words of a line.
use Rattle.std.specs.Prelude.{Result, Ok, Err}
use Rattle.tf_rules.specs.Issues.{asked_of}
use Rattle.tfrules_command.specs.Line.{Request}
use Rattle.tfrules_command.specs.declared.options.LintOptions.{LintOptions}
use Rattle.tfrules_command.specs.declared.usage.Usage.{Usage}

abbrev pub request_of : LintOptions → Request
request_of o =
    record { asked = asked_of o.settings; minimum = o.minimum; force = o.force; files = o.files }

abbrev pub result_request : Result LintOptions Usage → Result Request Usage
result_request (Ok o) = Ok (request_of o)
result_request (Err usage) = Err usage

-- The answers of the calls for a module's issues: the ordered list, each issue with the number of its file, its
-- position, its rule and its message. The files of a module have rising numbers, so no two issues of a rule have the
-- same place.
use Rattle.std.specs.Prelude.{◌≡◌, ◌<◌, ◌++◌, ℕ, List, map}
use Rattle.tf_rules.specs.Ordered.{Ascends}
use Rattle.tf_rules.specs.Issues.{Asked, File, IsReport}
use Rattle.tf_rules.specs.Issues as issues
use Rattle.tf_rules.specs.declared.issue.Issue.{Issue}
use Rattle.tf_rules.specs.declared.listed_issue.ListedIssue.{ListedIssue}
use Rattle.tf_rules.specs.declared.message_parts.MessageParts.{MessageParts}

abbrev pub shown_issue : issues.Issue → Issue
shown_issue i = record { file = i.place.file; at = i.place.at; rule = i.rule; message = i.message }

-- the text of a message's parts, one after another
abbrev pub text_of_parts : MessageParts → List ℕ
text_of_parts p = p.front.now ++ (p.name.now ++ (p.between.now ++ (p.other.now ++ p.rest.now)))

-- an issue from a list that has its message in parts
abbrev pub listed_issue : ListedIssue → Issue
listed_issue i =
    record { file = i.file; at = i.at; rule = i.rule; message = text_of_parts i.message }

-- the number of a file is below another's
abbrev pub IsBelow : File → File → Type 0
IsBelow file other = file.number < other.number

-- the numbers of files rise
abbrev pub Rising : List File → Type 0
Rising files = Ascends IsBelow files

-- THE ANSWER: the ordered list of the issues of files, as it is shown
pub record AreIssues (asked : Asked) (files : List File) (answer : List Issue) : Type 0 where
  pub report : List issues.Issue
  pub is : IsReport asked files report
  pub same : map shown_issue report ≡ answer

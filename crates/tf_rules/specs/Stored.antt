-- The stored facts of a module's files: places, names and flags, and no source. The issues are a function of them.
use Rattle.std.specs.Prelude.{ℕ, ◌++◌, List, [], Option, option_map, map, fold}
use Rattle.std.specs.Str.{bytes_eq}
use Rattle.indexmap.specs.IndexSet.{insert_all}
use Rattle.tf_facts.specs.Declarations.{Declaration, SourceAt}
use Rattle.tf_facts.specs.References.{references}
use Rattle.tf_facts.specs.Facts.{Facts, facts_of}
use Rattle.tf_rules.specs.Findings.{Finding}
use Rattle.tf_rules.specs.Issues.{File, Place, Issue, tokens_of, place_in, comment_at}
use Rattle.rule_set.specs.declared.rule.Rule.{Rule}

pub record Stored : Type 0 where
  pub facts : Facts Place
  pub references : List (List ℕ)  -- each reference once

-- ---- facts at other places

abbrev pub source_at : {P Q : Type 0} → (P → Q) → Option (SourceAt P) → Option (SourceAt Q)
source_at f = option_map (λ s. record { source = s.source; at = f s.at })

abbrev pub declaration_at : {P Q : Type 0} → (P → Q) → Declaration P → Declaration Q
declaration_at f d = record {
  kind = d.kind;
  names = d.names;
  at = f d.at;
  described = d.described;
  typed = d.typed;
  versioned = d.versioned;
  source = source_at f d.source;
}

abbrev pub facts_at : {P Q : Type 0} → (P → Q) → Facts P → Facts Q
facts_at f k =
    record {
      comments = map (comment_at f) k.comments;
      indexes = map f k.indexes;
      interpolations = map f k.interpolations;
      declarations = map (declaration_at f) k.declarations;
    }

-- ---- one file, and several

abbrev pub no_facts : Stored
no_facts =
    record {
      facts = record { comments = []; indexes = []; interpolations = []; declarations = [] };
      references = [];
    }

abbrev pub append_facts : {P : Type 0} → Facts P → Facts P → Facts P
append_facts a b =
    record {
      comments = a.comments ++ b.comments;
      indexes = a.indexes ++ b.indexes;
      interpolations =
          a.interpolations ++ b.interpolations;
      declarations = a.declarations ++ b.declarations;
    }

-- the stored facts with those of one more file
abbrev pub with_file : Stored → File → Stored
with_file kept file = record {
  facts = append_facts kept.facts (facts_at (place_in file) (facts_of (tokens_of file)));
  references = insert_all bytes_eq kept.references (references (tokens_of file));
}

-- THE STORED FACTS of these files
abbrev pub stored_of : List File → Stored
stored_of files = fold with_file no_facts files

-- ---- issues

abbrev pub issue_at : Rule → Finding Place → Issue
issue_at rule f = record { place = f.at; rule = rule; message = f.message }

pub mod SomeFromOne

pub mod ServeWords
